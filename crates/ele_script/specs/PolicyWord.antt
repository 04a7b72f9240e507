-- Which words are a policy, and what is wrong with a word that is none.
use Rattle.std.specs.Prelude.{◌≡◌, ℕ, ◌==◌, List, [], ◌∷◌, ◌++◌, codes, ◌⊎◌, Result, Ok, Err}
use Rattle.std.specs.List.{AllZip, slice_split}
use Rattle.ele_moment.specs.Number.{SpellsNumber}
use Rattle.ele_policy.specs.declared.policy.Policy.{Policy}
use Rattle.ele_policy.specs.declared.policy.Policy.TheVariants.{One, All, Safe, Landmarks}
use Rattle.ele_policy.specs.Ladder.{Rung}
use Rattle.ele_policy.specs.Policy.{IsPolicy}
use Rattle.ele_printer.specs.declared.fault.LineFault.{LineFault}
use Rattle.ele_printer.specs.declared.fault.LineFault.TheVariants.{BadLadder, Syntax}

-- a number, a slash (47) and a number
pub record SpellsPair (word : List ℕ) (pair : Rung) : Type 0 where
  pub age : List ℕ
  pub width : List ℕ
  pub are : word ≡ age ++ 47 ∷ width
  pub age_is : SpellsNumber age pair.0
  pub width_is : SpellsNumber width pair.1

-- a number of seconds with no floor, or with a floor after it
abbrev pub SpellsSafe : List ℕ → ℕ → ℕ → Type 0
SpellsSafe text seconds floor = (SpellsNumber text seconds × (floor ≡ 0)) ⊎ SpellsPair text (seconds, floor)

-- `safe:` and such a text
pub record IsSafeWord (word : List ℕ) (seconds floor : ℕ) : Type 0 where
  pub text : List ℕ
  pub are : word ≡ codes "safe:" ++ text
  pub spelled : SpellsSafe text seconds floor

-- what is between commas (44); no bytes have no parts
abbrev pub parts_of : List ℕ → List (List ℕ)
parts_of [] = []
parts_of (byte ∷ bytes) = slice_split (λ b. b == 44) (byte ∷ bytes)

-- the text is these pairs, with a comma between each two
abbrev pub SpellsPairs : List ℕ → List Rung → Type 0
SpellsPairs text pairs = AllZip SpellsPair (parts_of text) pairs

-- `landmarks:` and any number of pairs
pub record IsLadderWord (word : List ℕ) (pairs : List Rung) : Type 0 where
  pub text : List ℕ
  pub are : word ≡ codes "landmarks:" ++ text
  pub spelled : SpellsPairs text pairs

-- the word has the form of the policy, whatever its numbers
abbrev pub HasForm : List ℕ → Policy → Type 0
HasForm word One = word ≡ codes "one"
HasForm word All = word ≡ codes "all"
HasForm word (Safe seconds floor) = IsSafeWord word seconds floor
HasForm word (Landmarks rungs) = IsLadderWord word rungs

-- what a word is read as: the policy of its form; `Syntax` if it has none, and `BadLadder` if its numbers are those of no policy
abbrev pub ReadsPolicy : List ℕ → Result Policy LineFault → Type 0
ReadsPolicy word (Ok policy) = HasForm word policy × IsPolicy policy
ReadsPolicy word (Err Syntax) = (policy : Policy) → ¬ HasForm word policy
ReadsPolicy word (Err BadLadder) = (policy : Policy) × HasForm word policy × ¬ IsPolicy policy
ReadsPolicy word (Err fault) = ⊥
