use Rattle.ele_groups.proofs.Basics.{refl, arith}
use Rattle.ele_groups.proofs.Words.{marks}
use Rattle.ele_groups.proofs.Named.{changed_rows, found}
use Rattle.ele_groups.proofs.Kept.{kept_marked}
use Rattle.ele_groups.proofs.groups.Groups.add_mark.Goals as goal

pub mark_at-requires : goal.mark_at-requires
mark_at-requires c = rw (← c.self.view_is, found c.args.name.now c.self.inside.rows.entries c.self.invariant.named) at c.requires

pub invariant_of-self : goal.invariant_of-self
invariant_of-self c = grind (arith, c.mark_at.ensures, c.self.invariant, kept_marked _ _ c.self.invariant c.args.name.now (marks c.args.mark.now) (λ n row. refl) (λ file row. refl))

pub returns-clause-ok : goal.returns-clause-ok
returns-clause-ok c = grind (arith, c.self.view_is, c.mark_at.ensures, changed_rows c.args.name.now (marks c.args.mark.now) c.self.inside.rows.entries c.self.invariant.named)
