use Rattle.std.proofs.Common.{◌≡◌, Result, Ok, Err, true, refl, sym, ◌∙◌}
use Rattle.std.specs.Prelude.{OnErr}
use Rattle.ele_embed.proofs.Texts.{failed_long}
use Rattle.ele_embed.proofs.write_said.Goals as goal

on_err : {T E : Type 0} (r : Result T E) (P : Type 0) → P → OnErr r P
on_err (Ok x) P p = tt
on_err (Err x) P p = p

pub returns-in_err-check-clause-long : goal.returns-in_err-check-clause-long
returns-in_err-check-clause-long c =
    let failed : c.put_said.new.printer.has_failed ≡ true = sym c.check.ensures ∙ rw c.in_err-check.was refl in
    on_err c.from_residual.result _ (c.put_said.ensures.0, c.put_said.ensures.1, failed_long c.put_said.ensures.2 c.new-printer.ensures.held c.new-printer.ensures.well failed)
