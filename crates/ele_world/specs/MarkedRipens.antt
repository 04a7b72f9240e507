-- When a version ripens that marks cover, in force or ended.
use Rattle.std.specs.Prelude.{◌≡◌, ℕ, false, Option, Some, option_and_then}
use Rattle.std.specs.List.{AllByRecursion}
use Rattle.ele_policy.specs.declared.policy.Policy.{Policy}
use Rattle.ele_policy.specs.RipeCase.{IsRipe, case_beside}
use Rattle.ele_model.specs.Cover.{cover_of, ripe_past}
use Rattle.ele_model.specs.declared.rows.VersionRow.{VersionRow}
use Rattle.ele_model.specs.Due.{ripe_of}
use Rattle.ele_model.specs.FileView.{beside, file_view}
use Rattle.ele_model.specs.WellFormed.{IsWellFormed}
use Rattle.ele_model.specs.World.{World, is_open}

-- for a version that has ended and that no handle reads: `ripe` returns a moment for its end and its case. The case is what its file's
-- policy sees beside the newer held ones. The version ripens at the later of that moment and of the latest end of the marks that cover it,
-- even if they have ended. It never ripens if one of these marks has no end, or if that moment is past the last one
abbrev pub RipensPastMarks : World → VersionRow → Type 0
RipensPastMarks w row =
    let v = file_view w row.file in
    (policy : Policy) (ended : ℕ) (answer : Option ℕ) → v.policy ≡ Some policy → row.ended ≡ Some ended
    → is_open w.handles row.file row.number ≡ false
    → IsRipe (case_beside policy row.closed (beside v row)) ended answer
    → ripe_of w row ≡ option_and_then (ripe_past (cover_of w.groups row.file row.closed (Some ended))) answer

abbrev pub MarkedRipens : Type 0
MarkedRipens = (w : World) → IsWellFormed w → AllByRecursion (RipensPastMarks w) w.versions
