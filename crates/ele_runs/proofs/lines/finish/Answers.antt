use Rattle.ele_runs.proofs.Basics.{◌≡◌, ◌≤◌, ◌⊎◌, false, inl, inr, sym, ap, ◌∙◌, arith}
use Rattle.ele_runs.proofs.Words.{cut_count, outlet}
use Rattle.ele_run_options.specs.declared.options.RunOptions.{RunOptions}
use Rattle.ele_output.proofs.Known.{puts_no_more}
use Rattle.ele_runs.proofs.Blocks.{ends_at_cut, finishes_err, no_end_at}
use Rattle.ele_runs.proofs.lines.finish.Goals.{else-options-via-else-options, else-options-via-then-options+else-cut-gt0}
use Rattle.ele_runs.proofs.lines.finish.Goals as goal

pub returns-in_err-hand_over-clause-last : goal.returns-in_err-hand_over-clause-last
returns-in_err-hand_over-clause-last g c =
    finishes_err c.args.runner.now _ _ _ (outlet g.W.Write.contents c.hand_over.new.self) c.from_residual.result c.from_residual.ensures.0 (rw c.line-2.ensures at c.put_cut-cut.ensures.put) c.in_err-hand_over.ensures

pub returns-then-cut-gt0-clause-last : goal.returns-then-cut-gt0-clause-last
returns-then-cut-gt0-clause-last g c =
    let count = c.put_cut-cut.ensures.count ∙ ap cut_count c.line-2.ensures in
    let strict = ap (λ (m : RunOptions). m.strict) (sym c.options.ensures) ∙ c.if-options.true in (
      (omega (arith, c.lines.ensures, count), ends_at_cut c.args.runner.now c.args.buffer _ count c.if-cut-gt0.true strict, c.end_at_cut-tally.ensures),
      (puts_no_more (rw c.line-2.ensures at c.put_cut-cut.ensures.put) c.in_ok-hand_over.ensures.0, c.in_ok-hand_over.ensures.1),
    )

pub returns-clause-last : goal.returns-clause-last
returns-clause-last g c =
    let count = c.put_cut-cut.ensures.count ∙ ap cut_count c.line-2.ensures in
    let either : (c.args.runner.now.options.strict ≡ false) ⊎ (c.put_cut-cut.result ≤ 0) = elim c.else-options.branch [
      | else-options-via-then-options+else-cut-gt0 w ↦ inr (omega (arith, w.if-cut-gt0.false))
      | else-options-via-else-options w ↦ inl (ap (λ (m : RunOptions). m.strict) (sym c.options.ensures) ∙ w.if-options.false)
    ] in (
      (omega (arith, c.lines.ensures, count), no_end_at c.args.runner.now c.args.buffer _ count either, c.end_at_cut-tally-2.ensures),
      (puts_no_more (rw c.line-2.ensures at c.put_cut-cut.ensures.put) c.in_ok-hand_over.ensures.0, c.in_ok-hand_over.ensures.1),
    )
