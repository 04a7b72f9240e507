use Rattle.ele_groups.proofs.Times.{first_told, none_there, not_before}
use Rattle.ele_groups.proofs.marks.Marks.first_from.Goals as goal

pub returns-in-None-clause-none : goal.returns-in-None-clause-none
returns-in-None-clause-none c = λ time late.
    let range = c.range.ensures.in_range tt in
    rw (← c.self.view_is) (none_there c.self.inside.made.items c.self.inside.times c.self.invariant time (range.5 c.in-None.ensures.steps.0 time (not_before c.args.from time late, tt)))

pub returns-in-Some-clause-some : goal.returns-in-Some-clause-some
returns-in-Some-clause-some c =
    let range = c.range.ensures.in_range tt in
    let there = rw c.in-Some.ensures.steps at range.1 in
    let least = rw c.in-Some.ensures.steps at range.2 in
    rw (← c.self.view_is) (first_told c.self.inside.made.items c.self.inside.times c.self.invariant c.args.from _ c.in-Some.mark.now there.0.0 (rw c.in-Some.mark-is there.1) (λ k late some. least k (late, tt) some))
