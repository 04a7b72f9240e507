use Rattle.ele_evidence.proofs.Basics.{inl, refl}
use Rattle.ele_evidence.proofs.RowByRow.{begins_more, faulty, on_err, unverified, whole}
use Rattle.ele_evidence.proofs.checking.verify_rows.Goals as goal

pub rows-preserved : goal.rows-preserved
rows-preserved g c = begins_more _ _ _ _ _ _ _ _ c.rows.invariant (rw c.in-Right.is at c.in_ok-checked.ensures.ok)

pub returns-in-End-clause-ok : goal.returns-in-End-clause-ok
returns-in-End-clause-ok g c =
    let so = c.rows.invariant in
    let is = c.lemma_is_history-count.ensures _ so.base so.untrimmed in
    whole _ _ _ _ _ _ so is.0 is.1 (rw c.in-End.is at c.in_ok-checked.ensures.ok).0

pub returns-in-Wrong-clause-ok : goal.returns-in-Wrong-clause-ok
returns-in-Wrong-clause-ok g c =
    let so = c.rows.invariant in
    let is = c.lemma_is_history-count.ensures _ so.base so.untrimmed in
    faulty _ _ _ _ _ _ _ _ so is.0 (rw c.in-Wrong.is at c.in_ok-checked.ensures.ok) c.line_of.ensures

pub returns-in_err-checked-clause-err : goal.returns-in_err-checked-clause-err
returns-in_err-checked-clause-err g c =
    let so = c.rows.invariant in
    let is = c.lemma_is_history-count.ensures _ so.base so.untrimmed in
    on_err c.from_residual.result _ (unverified _ _ _ _ _ _ so is.0 c.in_err-checked.ensures.err)

pub returns-clause-err : goal.returns-clause-err
returns-clause-err g c =
    let so = c.rows.invariant in
    unverified _ _ _ _ _ _ so (c.lemma_is_history.ensures _ so.base so.untrimmed).0 (inl refl)
