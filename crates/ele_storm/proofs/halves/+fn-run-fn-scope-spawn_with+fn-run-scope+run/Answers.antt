use Rattle.std.proofs.Common.{◌≡◌, ℕ, ◌+◌, ◌-◌, arith, subst}
use Rattle.std.specs.Result.{result_and}
use Rattle.ele_storm.specs.Halves.{RunsWorkers}
use Rattle.ele_storm.proofs.Halving.{halves_run}
use Rattle.ele_storm.proofs.halves.+fn-run-fn-scope-spawn_with+fn-run-scope+run.Goals as goal

pub scope-returns-in-Ok : goal.scope-returns-in-Ok
scope-returns-in-Ok g t c =
    let q = rw (c.in-Ok.ensures.ok, c.of.ensures) at c.join-other.ensures in
    let more : ℕ = c.captures.count - c.captures.half in
    let all : c.captures.half + more ≡ c.captures.count = omega arith in
    rw c.and.ensures (subst (λ (k : ℕ). RunsWorkers c.captures.plan c.captures.from k c.captures.seat c.join.new.seat (result_and c.run-seat.result.1 c.join-other.result.1)) all
    (halves_run c.captures.plan c.captures.from c.captures.half more c.captures.seat c.run-seat.result.0 c.captures.other c.join-other.result.0 c.join.new.seat c.run-seat.result.1 c.join-other.result.1
    c.run-seat.ensures q c.join.ensures.0 c.requires.4))
