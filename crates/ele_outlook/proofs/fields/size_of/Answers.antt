use Rattle.ele_outlook.proofs.Detailed.{size_lacks, size_none, size_some}
use Rattle.ele_outlook.proofs.fields.size_of.Goals as goal

pub returns-then-not-form-clause-some : goal.returns-then-not-form-clause-some
returns-then-not-form-clause-some c = size_none c.args.form c.args.line.now c.if-not-form.true

pub returns-in-Some-clause-some : goal.returns-in-Some-clause-some
returns-in-Some-clause-some c = size_some c.args.form c.args.line.now c.in-Some.size (rw c.size_word.ensures at c.in-Some.ensures.found)

pub returns-in-None-clause-none : goal.returns-in-None-clause-none
returns-in-None-clause-none c = size_lacks c.args.form c.args.line.now c.if-not-form.false (rw c.size_word.ensures at c.in-None.ensures.only)
