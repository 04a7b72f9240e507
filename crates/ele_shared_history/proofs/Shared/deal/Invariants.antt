use Rattle.std.proofs.Common.{◌≡◌, ◌+◌, ◌≤◌, vec_len, vec_capacity}
use Rattle.ele_shared_history.specs.Dealt.{AreDealt}
use Rattle.ele_shared_history.proofs.Shared.deal.Given as goal

abbrev pub invariant-loop : goal.invariant-loop
invariant-loop g l = AreDealt l.self l.all.items l.last × (vec_len l.all + 1 ≡ l.counter) × (l.seats ≤ vec_capacity l.all)
