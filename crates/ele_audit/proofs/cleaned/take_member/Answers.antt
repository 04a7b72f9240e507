use Rattle.std.proofs.Common.{rules}
use Rattle.std.proofs.lemmas.Fn.{filter_same}
use Rattle.std.specs.Prelude.{not, ◌==◌}
use Rattle.ele_audit.proofs.cleaned.take_member.Goals as goal

pub returns : goal.returns
returns c = filter_same _ (λ member. not (member == c.args.file)) _ (λ x b f k. search rules) _ _ c.retain.ensures.filtered
