use Rattle.std.proofs.Common.{◌∙◌}
use Rattle.ele_shell.proofs.Triples.{audited}
use Rattle.ele_shell.proofs.audits.audit.Goals as goal

pub returns : goal.returns
returns c =
    audited _ _ c.args.names.now c.as_slice.result.now _ c.audit.result (c.as_slice.ensures ∙ c.in_ok-rows.ensures) c.audit.ensures
