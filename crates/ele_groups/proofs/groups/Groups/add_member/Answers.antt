use Rattle.std.proofs.Common.{refl, sym, ap, ◌∙◌}
use Rattle.std.specs.Map.{values_of}
use Rattle.std.specs.Prelude.{is_some}
use Rattle.ele_model.specs.GroupRows.{adds}
use Rattle.ele_groups.proofs.Named.{changed_rows, found, unwritten}
use Rattle.ele_groups.proofs.Kept.{kept_changed, kept_over, present, unnamed}
use Rattle.ele_groups.proofs.Placed.{placed_come, placed_undone}
use Rattle.ele_groups.proofs.groups.Groups.add_member.Goals as goal

pub returns-in_default-clause-ok : goal.returns-in_default-clause-ok
returns-in_default-clause-ok c =
    let es = c.self.inside.rows.entries in
    let free = unnamed es _ c.self.invariant c.args.name.now (rw (← c.self.view_is) at (sym c.place.ensures ∙ ap is_some c.in_default.is)) in
    rw (← c.self.view_is) (ap values_of (unwritten c.args.name.now (adds c.args.file) es free) ∙ changed_rows c.args.name.now (adds c.args.file) es c.self.invariant.named)

pub add_to-requires : goal.add_to-requires
add_to-requires c = rw (← c.self.view_is, found c.args.name.now c.self.inside.rows.entries c.self.invariant.named) at c.requires

pub invariant_of-self-in-Err : goal.invariant_of-self-in-Err
invariant_of-self-in-Err c = rw c.in-Err.ensures.err
    (kept_over _ _ c.self.invariant _ (placed_undone c.args.file c.args.name.now c.self.inside.memberships c.insert.new.self c.remove.new.self _ c.self.invariant.placed (rw (← c.self.view_is, found c.args.name.now c.self.inside.rows.entries c.self.invariant.named) at c.requires) c.in_ok-insert.ensures.ok c.remove.ensures))

pub invariant_of-self-in_default-add_to : goal.invariant_of-self-in_default-add_to
invariant_of-self-in_default-add_to c =
    let row = present _ _ c.self.invariant c.args.name.now (rw (← c.self.view_is) at (sym c.place.ensures ∙ ap is_some c.in-Some.is)) in
    rw c.in_default-add_to.ensures.ok (kept_changed _ _ c.self.invariant c.args.name.now (adds c.args.file) _ (λ n row. refl)
    (placed_come c.args.file c.args.name.now row.0 _ _ _ c.self.invariant.placed row.1 c.in_ok-insert.ensures.ok))

pub returns-clause-ok : goal.returns-clause-ok
returns-clause-ok c = rw (← c.self.view_is, c.in_default-add_to.ensures.ok) (changed_rows c.args.name.now (adds c.args.file) c.self.inside.rows.entries c.self.invariant.named)
