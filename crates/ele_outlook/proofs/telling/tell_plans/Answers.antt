use Rattle.std.proofs.Common.{◌∙◌, sym}
use Rattle.std.proofs.KnownBytes.{Keeps-refl}
use Rattle.std.proofs.lemmas.Result.{err_from_is_err_and}
use Rattle.ele_outlook.specs.Told.{told_of}
use Rattle.ele_outlook.proofs.Tables.{is_text, too_long, unfound}
use Rattle.ele_outlook.proofs.telling.tell_plans.Goals as goal

pub returns-then-is_over : goal.returns-then-is_over
returns-then-is_over g c = (too_long c.args.options.now c.args.read.now c.args.plans.now c.requires.form c.requires.are (sym c.is_over.ensures ∙ c.if-is_over.true), Keeps-refl _)

pub returns-in_default : goal.returns-in_default
returns-in_default g c = (unfound c.args.options.now c.args.read.now.closings c.args.plans.now c.requires.are c.in_default.ensures.err, Keeps-refl _)

pub returns-in_err-write_told : goal.returns-in_err-write_told
returns-in_err-write_told g c =
    let p = err_from_is_err_and c.from_residual.result c.from_residual.ensures.1 in
    let text = is_text c.args.options.now c.args.read.now c.args.plans.now c.in-Ok.found c.requires.form c.requires.are (sym c.is_over.ensures ∙ c.if-is_over.false) c.in-Ok.ensures.ok in
    rw (p.1, p.2) (told_of c.args.options.now c.args.read.now.details c.args.plans.now c.in-Ok.found, text, c.in_err-write_told.ensures)

pub returns : goal.returns
returns g c =
    let text = is_text c.args.options.now c.args.read.now c.args.plans.now c.in-Ok.found c.requires.form c.requires.are (sym c.is_over.ensures ∙ c.if-is_over.false) c.in-Ok.ensures.ok in
    (told_of c.args.options.now c.args.read.now.details c.args.plans.now c.in-Ok.found, text, c.in_ok-write_told.ensures)
