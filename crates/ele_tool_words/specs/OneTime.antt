-- What is true of every word: it spells at most one time.
use Rattle.std.specs.Prelude.{◌≡◌, ℕ, List}
use Rattle.ele_moment.specs.Spelled.{SpellsMoment}
use Rattle.ele_tool_words.specs.Time.{SpellsTime}

-- no word spells two times, and one that spells a moment spells that time
pub record OneTime : Type 0 where
  pub one : (word : List ℕ) (m n : ℕ) → SpellsTime word m → SpellsTime word n → m ≡ n
  pub moment : (word : List ℕ) (m : ℕ) → SpellsMoment word m → SpellsTime word m
