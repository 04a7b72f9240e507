-- After a mark event what was current then of the group's files is marked until the mark ends, what was marked before stays marked, and
-- nothing else is.
use Rattle.std.specs.Prelude.{◌≡◌, ℕ, ◌+◌, ◌||◌, ◌&&◌, List, Option}
use Rattle.ele_model.specs.declared.event.Event.TheVariants.{Mark}
use Rattle.ele_model.specs.declared.reply.Reply.TheVariants.{Done}
use Rattle.ele_model.specs.declared.rows.MarkRow.{MarkRow}
use Rattle.ele_model.specs.GroupRows.{has_group, has_member, is_marked, keeps_at}
use Rattle.ele_model.specs.Step.{step}
use Rattle.ele_model.specs.WellFormed.{IsWellFormed}
use Rattle.ele_model.specs.World.{World}

-- for each file, each span of time in which a version was current, and each moment; groups and members stay
pub record MarksMoment (before : World) (name : List ℕ) (mark : MarkRow) (after : World) : Type 0 where
  pub marked : (file closed : ℕ) (ended : Option ℕ) (at : ℕ)
      → is_marked after.groups file closed ended at ≡ (is_marked before.groups file closed ended at || (has_member before.groups name file && keeps_at closed ended at mark))
  pub groups : (other : List ℕ) → has_group after.groups other ≡ has_group before.groups other
  pub members : (other : List ℕ) (file : ℕ) → has_member after.groups other file ≡ has_member before.groups other file
  pub rest : after ≡ record before { groups = after.groups; made = record before.made { marks = before.made.marks + 1 } }

abbrev pub MarkMarks : Type 0
MarkMarks =
    (w : World) (name : List ℕ) (mark : ℕ) (until : Option ℕ) → IsWellFormed w → (step w (Mark name mark until)).0 ≡ Done
    → MarksMoment w name (record { at = mark; until = until }) ((step w (Mark name mark until)).1)
