-- Contents, each beside an earlier one of the same file: their bytes.
use Rattle.std.specs.Prelude.{ℕ, ◌+◌, nat_eq, Bool, false, ◌&&◌, List, [], ◌∷◌, ◌++◌, length, slice_get, Option, Some, None, if◌then◌else◌}
use Rattle.std.specs.Cmp.Lexicographic.{pointwise}
use Rattle.ele_content.specs.declared.cell.Cell.{Cell}
use Rattle.ele_checkpoint.specs.Number.{number_text}
use Rattle.ele_checkpoint.specs.Values.{string_text}

-- a cell by its writer and its bytes
abbrev pub cell_text : Cell → List ℕ
cell_text c = number_text c.writer ++ string_text c.bytes

-- whether the earlier content has that cell in the slot, so that it is kept
abbrev pub is_kept : Option Cell → Cell → Bool
is_kept None c = false
is_kept (Some earlier) c = nat_eq earlier.writer c.writer && pointwise nat_eq earlier.bytes c.bytes

-- how many cells are kept until the next that isn't, and the bytes after that number
abbrev pub joined : ℕ × List ℕ → List ℕ
joined run = number_text run.0 ++ run.1

-- the cells from the slot on: how many are kept first, and then the next cell, how many are kept after it, and so on
abbrev pub runs : List Cell → ℕ → List Cell → ℕ × List ℕ
runs base slot [] = (0, [])
runs base slot (c ∷ cs) =
    if is_kept (slice_get base slot) c then ((runs base (slot + 1) cs).0 + 1, (runs base (slot + 1) cs).1)
    else (0, cell_text c ++ joined (runs base (slot + 1) cs))

-- a content beside an earlier one: how many cells it has, and the runs
unfoldable pub content_text : List Cell → List Cell → List ℕ
content_text base cells = number_text (length cells) ++ joined (runs base 0 cells)
