use Rattle.std.proofs.lemmas.Result.{IfOk-weaker}
use Rattle.std.proofs.Common.{arith}
use Rattle.ele_journal.proofs.Differing.{all_bytes}
use Rattle.ele_journal.proofs.Noticed.{is_noticed}
use Rattle.ele_journal.proofs.Journals.{is_all, is_cut, is_recovered, is_short}
use Rattle.ele_journal.proofs.recovery.recover.Goals as goal

pub returns-clause-found : goal.returns-clause-found
returns-clause-found c = IfOk-weaker c.read_journal.result _ _ (λ r inside. is_recovered c.args.bytes.now r inside) c.read_journal.ensures.inside

pub returns-clause-all : goal.returns-clause-all
returns-clause-all c = λ flat changes base are e. is_all c.args.bytes.now c.read_journal.result flat changes c.read_journal.ensures.inside c.read_journal.ensures.none base are e

pub returns-clause-cut : goal.returns-clause-cut
returns-clause-cut c = λ flat changes more base are e le. is_cut c.args.bytes.now more c.read_journal.result flat changes c.read_journal.ensures.inside c.read_journal.ensures.none base are e le

pub returns-clause-short : goal.returns-clause-short
returns-clause-short c = λ flat more base e lt. is_short c.read_journal.result (c.read_journal.ensures.cut flat more base e lt)

pub returns-clause-changed : goal.returns-clause-changed
returns-clause-changed c = λ flat changes place base are at.
    is_noticed c.args.bytes.now c.read_journal.result flat changes place c.read_journal.ensures.inside c.read_journal.ensures.none c.read_journal.ensures.why base are (all_bytes c.args.bytes.now (λ i. omega (arith, c.type_inv.bytes i))) (omega arith) at
