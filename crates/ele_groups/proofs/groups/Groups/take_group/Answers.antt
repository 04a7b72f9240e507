use Rattle.std.proofs.Common.{sym}
use Rattle.ele_groups.proofs.Named.{removed_rows}
use Rattle.ele_groups.proofs.Kept.{kept_without}
use Rattle.ele_groups.proofs.Placed.{placed_without}
use Rattle.ele_groups.proofs.groups.Groups.take_group.Goals as goal

pub invariant_of-self : goal.invariant_of-self
invariant_of-self c =
    kept_without _ _ c.self.invariant c.args.name.now _ _ c.shift_remove.ensures.entries c.shift_remove.ensures.unique
    (placed_without c.args.name.now c.in-Some.group _ _ _ _ c.self.invariant.placed (sym c.in-Some.ensures.value) c.in-Some.ensures.updates.0 (rw c.members.ensures at c.leave.ensures))

pub returns-in-Some : goal.returns-in-Some
returns-in-Some c = rw (← c.self.view_is, c.shift_remove.ensures.entries) (removed_rows c.args.name.now c.self.inside.rows.entries c.self.invariant.named)

pub returns-in_default : goal.returns-in_default
returns-in_default c = rw (← c.self.view_is, c.shift_remove.ensures.entries) (removed_rows c.args.name.now c.self.inside.rows.entries c.self.invariant.named)
