use Rattle.std.proofs.Common.{sym, ◌∙◌}
use Rattle.ele_reasons.proofs.reasons.put_takes.Goals as goal

pub returns-then-is_span : goal.returns-then-is_span
returns-then-is_span g c = rw (sym c.is_span.ensures ∙ c.if-is_span.true) c.put.ensures
