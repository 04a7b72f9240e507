use Rattle.ele_evidence.proofs.Basics.{◌∙◌}
use Rattle.ele_evidence.proofs.RowByRow.{begins_none, first_line, headed, not_headed}
use Rattle.ele_evidence.specs.EvidenceText.{head_row}
use Rattle.ele_evidence.proofs.checking.verify.Goals as goal

pub verify_rows-requires : goal.verify_rows-requires
verify_rows-requires g c =
    let head = head_row c.args.history.now.base.limits in
    let line_is = first_line _ _ _ head c.below-line.ensures c.none.ensures c.requires.head in
    record {
      begins = begins_none _ _ _ _ _ (c.base.ensures.fresh c.requires.untrimmed) c.requires.empty c.requires.untrimmed line_is
          (headed _ _ _ head _ c.requires.head (c.bytes.ensures ∙ line_is) c.in-Some.ensures);
    }

pub returns-in-None-clause-ok : goal.returns-in-None-clause-ok
returns-in-None-clause-ok g c =
    let head = head_row c.args.history.now.base.limits in
    let line_is = first_line _ _ _ head c.below-line.ensures c.none.ensures c.requires.head in
    not_headed _ _ _ head c.requires.head (c.bytes.ensures ∙ line_is) c.in-None.ensures
