use Rattle.std.proofs.lemmas.Result.{IfOk-weaker}
use Rattle.ele_evidence.proofs.Basics.{subst}
use Rattle.ele_evidence.proofs.RowByRow.{newest}
use Rattle.ele_evidence.specs.EvidenceText.{IsRow}
use Rattle.ele_model.specs.declared.entry.Entry.{Entry}
use Rattle.ele_evidence.proofs.checking.newest_row.Goals as goal

pub returns-in-Some-clause-ok : goal.returns-in-Some-clause-ok
returns-in-Some-clause-ok g c past event is =
    IfOk-weaker c.row_of.result _ _ (λ row of. subst (λ (e : Entry). IsRow e row.items) (newest past _ event _ is c.in-Some.ensures) of) c.row_of.ensures.ok
