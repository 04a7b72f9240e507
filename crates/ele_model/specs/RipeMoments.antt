-- The ripe moment of a held version: the moment from which it is due, and the answer of `ripe` of `ele_policy`.
use Rattle.std.specs.Prelude.{◌≡◌, ℕ, ◌≤◌, nat_le, false, Option, Some}
use Rattle.std.specs.List.{AllByRecursion}
use Rattle.std.specs.Option.{option_map_or}
use Rattle.ele_moment.specs.Last.{last_moment}
use Rattle.ele_policy.specs.declared.policy.Policy.{Policy}
use Rattle.ele_policy.specs.RipeCase.{IsRipe, case_beside}
use Rattle.ele_model.specs.declared.rows.VersionRow.{VersionRow}
use Rattle.ele_model.specs.Due.{is_due_at, ripe_of}
use Rattle.ele_model.specs.FileView.{file_view, beside, is_protected}
use Rattle.ele_model.specs.WellFormed.{IsWellFormed}
use Rattle.ele_model.specs.World.{World}

-- the version is due from its ripe moment on, and never if it has none
abbrev pub IsDueFromRipe : World → VersionRow → Type 0
IsDueFromRipe w row = (at : ℕ) → at ≤ last_moment → is_due_at w row at ≡ option_map_or (λ ripe. nat_le ripe at) (ripe_of w row) false

abbrev pub DueFromRipe : Type 0
DueFromRipe = (w : World) → IsWellFormed w → AllByRecursion (IsDueFromRipe w) w.versions

-- a version that has ended and isn't protected: its ripe moment is the answer of `ripe` for its end and its case. The case is what its
-- file's policy sees beside the newer held ones
abbrev pub RipeIsAnswer : World → VersionRow → Type 0
RipeIsAnswer w row =
    let v = file_view w row.file in
    (policy : Policy) (ended : ℕ) (answer : Option ℕ) → v.policy ≡ Some policy → row.ended ≡ Some ended
    → ((at : ℕ) → is_protected v row at ≡ false)
    → IsRipe (case_beside policy row.closed (beside v row)) ended answer
    → ripe_of w row ≡ answer

abbrev pub RipeIsAnswered : Type 0
RipeIsAnswered = (w : World) → IsWellFormed w → AllByRecursion (RipeIsAnswer w) w.versions
