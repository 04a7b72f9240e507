-- The first pairs of a text.
use Rattle.std.specs.Prelude.{◌≡◌, ℕ, List, take}
use Rattle.std.specs.List.{AllZip}
use Rattle.ele_policy.specs.Ladder.{Rung}
use Rattle.ele_script.specs.PolicyWord.{IsLadderWord, SpellsPair, parts_of}

-- the words are pairs, of which the first nine are kept: one more than a ladder may have
pub record Keeps (words : List (List ℕ)) (kept : List Rung) : Type 0 where
  pub pairs : List Rung
  pub spelled : AllZip SpellsPair words pairs
  pub first : kept ≡ take 9 pairs

-- the same for a text
abbrev pub KeepsPairs : List ℕ → List Rung → Type 0
KeepsPairs text kept = Keeps (parts_of text) kept

-- the same for a word that begins with `landmarks:`
pub record KeepsLadder (word : List ℕ) (kept : List Rung) : Type 0 where
  pub pairs : List Rung
  pub is : IsLadderWord word pairs
  pub first : kept ≡ take 9 pairs
