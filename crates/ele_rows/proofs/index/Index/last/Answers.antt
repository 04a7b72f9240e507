use Rattle.ele_rows.proofs.Words.{in_group, last_of_group}
use Rattle.ele_rows.proofs.index.Index.last.Goals as goal

pub returns-in_err-rank-clause-none : goal.returns-in_err-rank-clause-none
returns-in_err-rank-clause-none g c = rw c.from_residual.ensures
    (λ r s h k. (rw (c.new.ensures.start, c.new.ensures.end) at (c.range.ensures.in_range c.new.ensures.exhausted)).5 c.in_err-rank.ensures.steps.0 (c.args.group, r, s) (in_group g.met.G.Ord.total c.args.self.now c.args.group c.args.rank r s h k))

pub returns-clause-some : goal.returns-clause-some
returns-clause-some g c =
    let range = rw (c.new.ensures.start, c.new.ensures.end) at (c.range.ensures.in_range c.new.ensures.exhausted) in
    let entry = c.in_ok-rank.field-0.now in
    let is = range.3 entry c.next_back.new.self c.in_ok-rank.ensures.steps in
    last_of_group g.met.G.Ord.total c.args.self.now c.args.group c.args.rank entry is.0 is.1
    (range.4 entry c.next_back.new.self c.in_ok-rank.ensures.steps)
