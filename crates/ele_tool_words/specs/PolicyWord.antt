-- Which words mean a policy where a person writes one.
use Rattle.std.specs.Prelude.{◌≡◌, ℕ, ◌==◌, Bool, true, false, List, [], ◌∷◌, ◌++◌, codes, ◌⊎◌}
use Rattle.std.specs.List.{AllZip, after_first, before_first, list_any, slice_split}
use Rattle.ele_moment.specs.Number.{SpellsNumber}
use Rattle.ele_policy.specs.declared.policy.Policy.{Policy}
use Rattle.ele_policy.specs.declared.policy.Policy.TheVariants.{One, All, Safe, Landmarks}
use Rattle.ele_policy.specs.Ladder.{Rung}
use Rattle.ele_policy.specs.Policy.{IsPolicy}
use Rattle.ele_tool_words.specs.Length.{SpellsLength}

-- a slash (47)
abbrev pub is_slash : ℕ → Bool
is_slash byte = byte == 47

-- a comma (44)
abbrev pub is_comma : ℕ → Bool
is_comma byte = byte == 44

-- an age, a slash and a width, which are lengths
pub record SpellsRung (word : List ℕ) (rung : Rung) : Type 0 where
  pub slash : list_any is_slash word ≡ true
  pub age : SpellsLength (before_first is_slash word) rung.0
  pub width : SpellsLength (after_first is_slash word) rung.1

-- rungs, with a comma between each two
abbrev pub SpellsRungs : List ℕ → List Rung → Type 0
SpellsRungs text rungs = AllZip SpellsRung (slice_split is_comma text) rungs

-- a length and no floor, or a length, a slash and a floor
abbrev pub SpellsSafe : Bool → List ℕ → ℕ → ℕ → Type 0
SpellsSafe false text seconds floor = SpellsLength text seconds × (floor ≡ 0)
SpellsSafe true text seconds floor = SpellsLength (before_first is_slash text) seconds × SpellsNumber (after_first is_slash text) floor

-- one version an hour from a day on, one a day from a week on, and one a week from 30 days on
abbrev pub standard_rungs : List Rung
standard_rungs = (86400, 3600) ∷ (604800, 86400) ∷ (2592000, 604800) ∷ []

-- the word has the form of the policy, whatever its numbers
abbrev pub HasForm : List ℕ → Policy → Type 0
HasForm word One = word ≡ codes "one"
HasForm word All = word ≡ codes "all"
HasForm word (Safe seconds floor) =
    (text : List ℕ) × (word ≡ codes "safe:" ++ text) × SpellsSafe (list_any is_slash text) text seconds floor
HasForm word (Landmarks rungs) =
    ((word ≡ codes "standard") × (rungs ≡ standard_rungs)) ⊎ ((text : List ℕ) × (word ≡ codes "landmarks:" ++ text) × SpellsRungs text rungs)

-- the word means the policy: it has its form, and a policy may have its numbers
pub record MeansPolicy (word : List ℕ) (policy : Policy) : Type 0 where
  pub form : HasForm word policy
  pub is : IsPolicy policy
