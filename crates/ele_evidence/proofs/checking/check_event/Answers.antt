use Rattle.ele_evidence.proofs.Basics.{refl}
use Rattle.ele_evidence.proofs.RowByRow.{hashed, no_row}
use Rattle.ele_evidence.proofs.checking.check_event.Goals as goal

pub returns-clause-ok : goal.returns-clause-ok
returns-clause-ok g c =
    hashed _ _ c.args.event _ _ _ _ _ c.check_hash.result c.requires c.in-Ok.ensures.ok.0 c.in-Ok.ensures.ok.1 c.as_slice-2.ensures.value (rw (c.as_slice.ensures.value, ← c.as_slice-2.ensures.value) at c.in-Some.ensures) c.check_hash.ensures

pub returns-in_default-clause-ok : goal.returns-in_default-clause-ok
returns-in_default-clause-ok g c =
    (refl, c.args.event, c.requires, no_row c.args.history.now c.args.event c.in-Ok.row.items c.args.rest.now c.in-Ok.ensures.ok.1 (rw c.as_slice.ensures.value at c.in_default.ensures))
