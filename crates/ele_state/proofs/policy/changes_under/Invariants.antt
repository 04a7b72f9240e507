use Rattle.ele_state.proofs.Words.{AreChanges, take, unread_under}
use Rattle.ele_state.proofs.Governed.{is_among}
use Rattle.ele_state.proofs.policy.changes_under.Given as goal

abbrev pub invariant-loop-info : goal.invariant-loop-info
invariant-loop-info l = AreChanges (is_among l.file (take l.info-index l.info-items)) (unread_under l.rows.groups l.was l.rows.files) (unread_under l.rows.groups l.is l.rows.files) l.changes.items
