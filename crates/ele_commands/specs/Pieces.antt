-- Pieces of a word, with commas between them.
use Rattle.std.specs.Prelude.{ℕ, List, [], ◌∷◌, map, codes}
use Rattle.std.specs.List.{join_with_byte}

-- the pieces with a comma (44) between each two, or `-` for none
abbrev pub pieces_or_dash : {A : Type 0} → (A → List ℕ) → List A → List ℕ
pieces_or_dash text [] = codes "-"
pieces_or_dash text (piece ∷ pieces) = join_with_byte 44 (map text (piece ∷ pieces))
