use Rattle.std.proofs.Common.{◌≡◌, ◌<◌, ◌+◌, ◌-◌, ◌++◌, ℕ, List, Option, Some, suc, length, take, drop, subst, ◌∙◌, ap, arith, length-drop}
use Rattle.ele_lists.specs.Ends.{last_of}
use Rattle.ele_rule_parts.specs.declared.row.Row.{Row}
use Rattle.ele_peer_rules.specs.Marks.{after_from, count, is_oldest, marked, takes}
use Rattle.ele_peer_rules.proofs.PartSteps.{IsTurn, count_bound, counts_bound, count_step, marks_step, row_before}
use Rattle.ele_peer_rules.proofs.marking.mark_part.Goals as goal

pub marked-requires : goal.marked-requires
marked-requires c =
    let bound = count_bound c.args.ways c.args.part.span (last_of (take c.loop-at.at c.args.rows.now)) (drop c.loop-at.at c.args.rows.now) (drop c.loop-at.at c.args.marks.now) in
    omega (arith, c.requires.fits, c.loop-at.invariant.counted, bound, length-drop c.loop-at.at c.args.rows.now)

pub overflow_add-counted : goal.overflow_add-counted
overflow_add-counted c =
    let bound = count_bound c.args.ways c.args.part.span (last_of (take c.loop-at.at c.args.rows.now)) (drop c.loop-at.at c.args.rows.now) (drop c.loop-at.at c.args.marks.now) in
    let one = counts_bound c.args.ways c.takes-taken.result c.mark_at-mark.result in
    omega (arith, c.requires.fits, c.loop-at.invariant.counted, bound, length-drop c.loop-at.at c.args.rows.now, one, c.counts-counted.ensures)

pub loop-at-preserved : goal.loop-at-preserved
loop-at-preserved c =
    let i : ℕ = c.loop-at.at - 1 in
    let row = c.index-rows-at.result in
    let at : c.loop-at.at ≡ suc i = omega (arith, c.loop-at-test.true) in
    let in_rows : i < length c.args.rows.now = omega (arith, c.loop-at-test.true, c.loop-at.invariant.within) in
    let before : last_of (take c.loop-at.at c.args.rows.now) ≡ Some row = ap (λ (n : ℕ). last_of (take n c.args.rows.now)) at ∙ row_before c.args.rows.now i row in_rows c.index-rows-at.is in
    let marks_before = subst (λ (b : Option Row). c.loop-at.marks ≡ take c.loop-at.at c.args.marks.now ++ after_from c.args.ways c.args.since.now c.args.part b (drop c.loop-at.at c.args.rows.now) (drop c.loop-at.at c.args.marks.now)) before c.loop-at.invariant.marks in
    let counted_before = subst (λ (b : Option Row). c.loop-at.counted ≡ count c.args.ways c.args.part.span b (drop c.loop-at.at c.args.rows.now) (drop c.loop-at.at c.args.marks.now)) before c.loop-at.invariant.counted in
    let marks = subst (λ (n : ℕ). c.loop-at.marks ≡ take n c.args.marks.now ++ after_from c.args.ways c.args.since.now c.args.part (Some row) (drop n c.args.rows.now) (drop n c.args.marks.now)) at marks_before in
    let counted = subst (λ (n : ℕ). c.loop-at.counted ≡ count c.args.ways c.args.part.span (Some row) (drop n c.args.rows.now) (drop n c.args.marks.now)) at counted_before in
    let next : c.loop-at.at - 1 + 1 ≡ suc i = omega arith in
    let older : c.split_at.result.0.now ≡ take i c.args.rows.now = c.split_at.ensures.front in
    let newer : c.split_at-in-loop-at.result.1.now ≡ drop (suc i) c.args.rows.now = c.split_at-in-loop-at.ensures.back ∙ ap (λ (n : ℕ). drop n c.args.rows.now) next in
    let taken = c.takes-taken.ensures ∙ ap (λ (rows : List Row). takes c.args.ways c.args.part.span (last_of rows) row c.split_at-in-loop-at.result.1.now) older in
    let oldest = c.is_oldest.ensures ∙ ap (λ (rows : List Row). is_oldest (last_of rows)) older in
    let after = c.marked.ensures ∙ ap (λ b. marked c.args.ways c.args.since.now c.args.part b c.takes-taken.result c.loop-at.counted row c.mark_at-mark.result) oldest in
    let turn : IsTurn c.args.ways c.args.since.now c.args.part i c.args.rows.now c.args.marks.now c.loop-at.marks c.loop-at.counted row c.mark_at-mark.result = record {
      in_rows = in_rows;
      in_marks = omega (arith, c.loop-at-test.true, c.loop-at.invariant.within, c.requires.same);
      row_is = c.index-rows-at.is;
      mark_is = c.mark_at-mark.ensures;
      current_is = marks;
      counted_is = counted;
    } in
    record {
      marks = marks_step _ _ _ (last_of (take i c.args.rows.now)) i _ _ _ _ _ _ _ _ _ turn newer taken after;
      counted = count_step _ _ _ (last_of (take i c.args.rows.now)) i _ _ _ _ _ _ _ _ _ turn newer taken c.counts-counted.ensures;
      within = omega (arith, c.loop-at-test.true, c.loop-at.invariant.within);
    }
