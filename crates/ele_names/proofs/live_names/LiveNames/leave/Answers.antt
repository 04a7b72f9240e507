use Rattle.ele_names.proofs.Lemmas.{not, ap, arith, nat_tests, named_dead, dead_one, dead_left, numbered_without}
use Rattle.ele_names.proofs.live_names.LiveNames.leave.Goals as goal

pub returns-then-is_none-clause-numbered : goal.returns-then-is_none-clause-numbered
returns-then-is_none-clause-numbered c = λ at to serial. c.end.ensures.numbered c.args.row.now at to serial c.requires.its

pub returns-else-is_none-clause-counted : goal.returns-else-is_none-clause-counted
returns-else-is_none-clause-counted c = λ was now leaves counts. record { named = λ d n. grind (arith, nat_tests, counts.named d n, dead_left c.args.row.now d n was now leaves); in_directory = λ d. grind (arith, nat_tests, dead_one, leaves.in_directory d, counts.in_directory d) }

pub returns-else-is_none-clause-numbered : goal.returns-else-is_none-clause-numbered
returns-else-is_none-clause-numbered c = λ at to serial there elsewhere numbered. numbered_without c.args.row.now serial at _ _ numbered to there elsewhere (λ d n live is. (is, named_dead d n c.args.row.now (λ _. ap not c.if-is_none.ensures)))
