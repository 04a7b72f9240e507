use Rattle.std.proofs.Common.{refl}
use Rattle.ele_model.specs.GroupRows.{removes}
use Rattle.ele_groups.proofs.Named.{changed_rows}
use Rattle.ele_groups.proofs.Kept.{kept_changed}
use Rattle.ele_groups.proofs.Placed.{placed_gone}
use Rattle.ele_groups.proofs.groups.Groups.take_member.Goals as goal

pub invariant_of-self : goal.invariant_of-self
invariant_of-self c = rw c.remove_from.ensures.removes (kept_changed _ _ c.self.invariant c.args.name.now (removes c.args.file) _ (λ n row. refl)
    (placed_gone c.args.file c.args.name.now (removes c.args.file) _ _ _ c.self.invariant.placed c.remove.ensures (rw c.remove_from.ensures.removes at c.remove_from.ensures.members)))

pub returns : goal.returns
returns c = rw (← c.self.view_is, c.remove_from.ensures.removes) (changed_rows c.args.name.now (removes c.args.file) c.self.inside.rows.entries c.self.invariant.named)
