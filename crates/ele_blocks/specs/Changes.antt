-- A map and its store after a write and a truncate.
use Rattle.std.specs.Prelude.{◌≡◌, ℕ, ◌+◌, Bool, List, [], ◌∷◌, length, min, max}
use Rattle.ele_content.specs.declared.cell.Cell.{Cell}
use Rattle.ele_content.specs.Content.{content_of, content_after_write, content_after_truncate, cells_after_write, cells_after_truncate, meets, refits}
use Rattle.ele_blocks.specs.Layout.{Layout, shown}
use Rattle.ele_blocks.specs.Owes.{Moves}
use Rattle.ele_blocks.specs.Renews.{Renews}
use Rattle.ele_blocks.specs.Store.{Store}

-- the new map has so many bytes and shows these cells, and so that content; the slots that pass the test are renewed by the writer
pub record IsRewritten (s t : Store) (writer : ℕ) (renewed : ℕ → Bool) (count : ℕ) (bytes : List ℕ) (after : List Cell) (was now : Layout) : Type 0 where
  pub size : now.size ≡ count
  pub content : content_of (shown t now) ≡ bytes
  pub cells : shown t now ≡ after
  pub moves : Moves s t (was ∷ []) (now ∷ [])
  pub renews : Renews s t writer renewed was now

-- the new map has the bytes from the offset on, and the writer at the slots that are filled or written
abbrev pub IsWritten : Store → Store → ℕ → ℕ → List ℕ → Layout → Layout → Type 0
IsWritten s t writer offset bytes was now =
    IsRewritten s t writer (meets (min offset was.size) (offset + length bytes)) (max was.size (offset + length bytes))
    (content_after_write (content_of (shown s was)) offset bytes)
    (cells_after_write writer offset bytes (shown s was)) was now

-- the new map has so many bytes, and the writer at the slots that are filled or cut
abbrev pub IsResized : Store → Store → ℕ → ℕ → Layout → Layout → Type 0
IsResized s t writer size was now =
    IsRewritten s t writer (refits was.size size) size (content_after_truncate (content_of (shown s was)) size)
    (cells_after_truncate writer size (shown s was)) was now
