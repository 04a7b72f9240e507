-- The words of the mark that held a version after its policy had let it go, and words inside a line.
use Rattle.std.specs.Prelude.{ℕ, List, [], ◌∷◌, ◌++◌, codes, Option, Some, None}
use Rattle.ele_holds.specs.declared.hold.Hold.{Hold}
use Rattle.ele_model.specs.FateText.{mark_word}

-- none if no mark did
abbrev pub hold_words : Option Hold → List (List ℕ)
hold_words None = []
hold_words (Some hold) = codes "held" ∷ hold.group ∷ mark_word hold.mark ∷ []

-- the words, each with a space (32) before it
abbrev pub spaced : List (List ℕ) → List ℕ
spaced [] = []
spaced (word ∷ []) = 32 ∷ word
spaced (word ∷ words) = (32 ∷ word) ++ spaced words
