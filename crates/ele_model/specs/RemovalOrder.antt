-- Due versions may be removed in any order: the removal of one leaves the others due, and makes no other due.
use Rattle.std.specs.Prelude.{◌≡◌, true, List, ◌∷◌, ◌++◌}
use Rattle.ele_model.specs.declared.rows.VersionRow.{VersionRow}
use Rattle.ele_model.specs.Due.{is_due_at, kept_rows}
use Rattle.ele_model.specs.RipeRows.{due_rows}
use Rattle.ele_model.specs.WellFormed.{IsWellFormed}
use Rattle.ele_model.specs.World.{World}

-- the second list is the first without that row
pub record IsWithout (row : VersionRow) (all rest : List VersionRow) : Type 0 where
  pub before : List VersionRow
  pub behind : List VersionRow
  pub whole : all ≡ before ++ row ∷ behind
  pub left : rest ≡ before ++ behind

-- after the removal of a due row, the due rows are those before without it, and the kept rows those before
pub record LeavesDue (w : World) (row : VersionRow) (after : World) : Type 0 where
  pub due : IsWithout row (due_rows w) (due_rows after)
  pub kept : kept_rows after ≡ kept_rows w

abbrev pub RemovalOrder : Type 0
RemovalOrder =
    (w : World) (before : List VersionRow) (row : VersionRow) (behind : List VersionRow) → IsWellFormed w
    → w.versions ≡ before ++ row ∷ behind → is_due_at w row w.now ≡ true
    → LeavesDue w row (record w { versions = before ++ behind })
