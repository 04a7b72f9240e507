use Rattle.std.proofs.Common.{ℕ, ◌+◌, ◌∙◌, ap, arith}
use Rattle.ele_storm.specs.Rounds.{file_of}
use Rattle.ele_storm.proofs.Halving.{length-made}
use Rattle.ele_storm.proofs.Works.{created, first_made, goes_further}
use Rattle.ele_storm.proofs.storms.prepare.Goals as goal

pub loop-writer-init : goal.loop-writer-init
loop-writer-init g c = (
  omega (arith, length-made _ c.args.seat.now c.make.new.seat c.in_ok-make.ensures.ok),
  first_made _ _ c.args.seat.now c.make.new.seat c.root.ensures (c.in_ok-policy.ensures ∙ c.policy.ensures) c.in_ok-make.ensures.ok,
  c.in_ok-make.ensures.seen,
)

pub loop-writer-preserved : goal.loop-writer-preserved
loop-writer-preserved g c =
    let h = c.loop-writer.invariant in (
      omega (arith, h.0, length-made _ c.loop-writer.seat c.make-in-loop-writer.new.seat c.in_ok-make-2.ensures.ok),
      created c.loop-writer.writer c.in_ok-path.path c.args.seat.now c.loop-writer.seat c.make-in-loop-writer.new.seat (c.in_ok-path.ensures ∙ ap (λ (n : ℕ). file_of (n + 1)) c.from.ensures) h.1 c.in_ok-make-2.ensures.ok,
      goes_further c.args.seat.now c.loop-writer.seat c.make-in-loop-writer.new.seat h.2 c.in_ok-make-2.ensures.seen,
    )
