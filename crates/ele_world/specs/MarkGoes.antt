-- After an unmark the group has its other marks, and its files.
use Rattle.std.specs.Prelude.{◌≡◌, ℕ, ◌==◌, List, None, if◌then◌else◌}
use Rattle.ele_model.specs.declared.event.Event.TheVariants.{Unmark}
use Rattle.ele_model.specs.declared.reply.Reply.TheVariants.{Done}
use Rattle.ele_world.specs.GroupChanges.{ChangesGroup, IsGroupOf}
use Rattle.ele_model.specs.GroupRows.{group_named, is_member, mark_at}
use Rattle.ele_model.specs.Step.{step}
use Rattle.ele_model.specs.WellFormed.{IsWellFormed}
use Rattle.ele_model.specs.World.{World}

abbrev pub MarkGoes : Type 0
MarkGoes =
    (w : World) (name : List ℕ) (mark : ℕ) → IsWellFormed w → (step w (Unmark name mark)).0 ≡ Done
    → ChangesGroup w name (IsGroupOf (group_named w.groups name) (λ row file. is_member file row) (λ row other. if mark == other then None else mark_at other row)) ((step w (Unmark name mark)).1)
