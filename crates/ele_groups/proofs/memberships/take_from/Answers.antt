use Rattle.std.proofs.Common.{rules}
use Rattle.std.proofs.lemmas.Fn.{filter_same}
use Rattle.ele_groups.proofs.Basics.{bytes_eq, not}
use Rattle.ele_groups.proofs.memberships.take_from.Goals as goal

pub returns : goal.returns
returns c = filter_same _ (λ other. not (bytes_eq other.name c.args.name.now)) _ (λ x b f k. search rules) _ _ c.retain.ensures.filtered
