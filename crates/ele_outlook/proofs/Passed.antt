-- A line of some that is passed over, or found.
use Rattle.std.proofs.Common.{◌≡◌, ◌<◌, ◌||◌, ◌∙◌, ℕ, Bool, true, false, List, ◌∷◌, None, length, ap, sym}
use Rattle.std.proofs.Math.Bool.{or-false}
use Rattle.std.specs.List.{list_any}
use Rattle.memchr.specs.Find.{IsFirstByte, is_byte}
use Rattle.ele_outlook.specs.Input.{lines_of}
use Rattle.ele_outlook.proofs.Lines.{only_line}

-- the first line has it not, so another has it or none
pub passed : (has : List ℕ → Bool) (found : Bool) (rest line behind : List ℕ) → found ≡ list_any has (lines_of rest) → lines_of rest ≡ line ∷ lines_of behind → has line ≡ false → found ≡ list_any has (lines_of behind)
passed has found rest line behind far cut lacks = far ∙ ap (list_any has) cut ∙ ap (λ (b : Bool). b || list_any has (lines_of behind)) lacks

-- the first line has it
pub here : (has : List ℕ → Bool) (found : Bool) (rest line behind : List ℕ) → found ≡ list_any has (lines_of rest) → lines_of rest ≡ line ∷ lines_of behind → has line ≡ true → true ≡ found
here has found rest line behind far cut holds = sym (far ∙ ap (list_any has) cut ∙ ap (λ (b : Bool). b || list_any has (lines_of behind)) holds)

-- there is one line, which has it or not
pub alone : (has : List ℕ → Bool) (rest : List ℕ) → IsFirstByte (is_byte 10) rest None → 0 < length rest → has rest ≡ list_any has (lines_of rest)
alone has rest none some = sym (ap (list_any has) (only_line rest none some) ∙ or-false (has rest))
