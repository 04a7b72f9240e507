use Rattle.ele_evidence.proofs.Basics.{refl}
use Rattle.ele_evidence.proofs.RowByRow.{before_rest}
use Rattle.ele_evidence.proofs.checking.line_of.Goals as goal

pub returns : goal.returns
returns c right parts =
    let is = before_rest c.args.text.now c.args.rest.now right _ parts c.saturating_sub-at.ensures in
    rw (c.count.ensures, c.memchr_iter.ensures.value, c.split_at.ensures.front, is) refl
