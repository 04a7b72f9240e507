-- One block for each slot of a file and its writer, in all contents of a world.
use Rattle.std.specs.Prelude.{◌≡◌, ℕ, List, ◌++◌, Some, map, slice_get}
use Rattle.ele_lists.specs.Lists.{AllLater}
use Rattle.ele_content.specs.declared.cell.Cell.{Cell}
use Rattle.ele_content.specs.Place.{Place}
use Rattle.ele_model.specs.World.{World}

-- the cells of a version or a draft, and the file of both
pub record Content : Type 0 where
  pub file : ℕ
  pub cells : List Cell

-- those of all versions, followed by those of all drafts
abbrev pub contents : World → List Content
contents w =
    map (λ row. record { file = row.file; cells = row.cells }) w.versions ++ map (λ row. record { file = row.file; cells = row.cells }) w.drafts

-- the content has these bytes at the place: it is of the place's file, and its cell at the slot is of that writer
pub record HasBytes (place : Place) (bytes : List ℕ) (content : Content) : Type 0 where
  pub of_file : content.file ≡ place.file
  pub there : slice_get content.cells place.slot ≡ Some (record { writer = place.writer; bytes = bytes })

-- wherever both contents have a place, they have the same bytes there
abbrev pub AreShared : Content → Content → Type 0
AreShared x y = (place : Place) (bytes other : List ℕ) → HasBytes place bytes x → HasBytes place other y → bytes ≡ other

-- all contents of the world do
abbrev pub IsSharing : World → Type 0
IsSharing w = AllLater AreShared (contents w)
