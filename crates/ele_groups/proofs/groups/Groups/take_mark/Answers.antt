use Rattle.std.proofs.Common.{refl}
use Rattle.ele_model.specs.GroupRows.{unmarks}
use Rattle.ele_groups.proofs.Named.{changed_rows}
use Rattle.ele_groups.proofs.Kept.{kept_marked}
use Rattle.ele_groups.proofs.groups.Groups.take_mark.Goals as goal

pub invariant_of-self : goal.invariant_of-self
invariant_of-self c = rw c.unmark_at.ensures (kept_marked _ _ c.self.invariant c.args.name.now (unmarks c.args.moment) (λ n row. refl) (λ file row. refl))

pub returns : goal.returns
returns c = rw (← c.self.view_is, c.unmark_at.ensures) (changed_rows c.args.name.now (unmarks c.args.moment) c.self.inside.rows.entries c.self.invariant.named)
