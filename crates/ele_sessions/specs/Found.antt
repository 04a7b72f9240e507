-- The place of an open handle.
use Rattle.std.specs.Prelude.{◌≡◌, List, Some, find}
use Rattle.std.specs.List.{position}
use Rattle.ele_model.specs.World.{is_handle}
use Rattle.ele_model.specs.declared.rows.HandleRow.{HandleRow}
use Rattle.ele_sessions.specs.declared.found_handle.FoundHandle.{FoundHandle}

-- the handle with its number is this one, and it is at this place
pub record StandsAt (handles : List HandleRow) (handle : FoundHandle) : Type 0 where
  pub row : find (is_handle handle.row.number) handles ≡ Some handle.row
  pub place : position (is_handle handle.row.number) handles ≡ Some handle.place
