use Rattle.ele_groups.proofs.Basics.{refl, sym, ◌∙◌, values_of}
use Rattle.ele_groups.proofs.Words.{forgets, is_member}
use Rattle.ele_groups.proofs.Named.{no_value}
use Rattle.ele_groups.proofs.Forgotten.{fewer_have, forgotten_first, none_forgotten}
use Rattle.ele_groups.proofs.Kept.{kept_changed}
use Rattle.ele_groups.proofs.Members.{first_has, none_has}
use Rattle.ele_groups.proofs.Placed.{placed_gone}
use Rattle.ele_groups.proofs.groups.Groups.forget_one.Goals as goal

pub returns-in_default-clause-none : goal.returns-in_default-clause-none
returns-in_default-clause-none c = λ _.
    let es = c.self.inside.rows.entries in
    let none = rw c.of.ensures at (sym c.first.ensures.value ∙ sym c.copied.ensures ∙ c.in_default.is) in
    rw (← c.self.view_is) (none_forgotten c.args.file (values_of es) (no_value (is_member c.args.file) es c.self.invariant.apart
    (λ n. sym (c.self.invariant.placed.each c.args.file n) ∙ none_has c.self.inside.memberships c.args.file n none)))

pub invariant_of-self : goal.invariant_of-self
invariant_of-self c = rw c.remove_from.ensures.forgets (kept_changed _ _ c.self.invariant c.in-Some.membership.name (forgets c.args.file) _ (λ n row. refl)
    (placed_gone c.args.file c.in-Some.membership.name (forgets c.args.file) _ _ _ c.self.invariant.placed c.remove.ensures (rw c.remove_from.ensures.forgets at c.remove_from.ensures.members)))

pub returns-clause-others : goal.returns-clause-others
returns-clause-others c = rw (← c.self.view_is, c.remove_from.ensures.forgets) (forgotten_first c.args.file c.in-Some.membership.name c.self.inside.rows.entries)

pub returns-clause-fewer : goal.returns-clause-fewer
returns-clause-fewer c = λ _.
    let first = rw c.of.ensures at (sym c.first.ensures.value ∙ sym c.copied.ensures ∙ c.in-Some.is) in
    rw (← c.self.view_is, c.remove_from.ensures.forgets) (fewer_have c.args.file c.in-Some.membership.name c.self.inside.rows.entries
    (sym (c.self.invariant.placed.each c.args.file c.in-Some.membership.name) ∙ first_has c.self.inside.memberships c.args.file c.in-Some.membership first))
