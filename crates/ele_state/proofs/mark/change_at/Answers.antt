use Rattle.ele_state.proofs.Words.{◌≡◌, Groups, arith, nat_tests, refl, sym, ◌∙◌}
use Rattle.ele_state.proofs.Marked.{changes, none_lived, stays}
use Rattle.ele_state.proofs.mark.change_at.Goals.{then-eq-via-then-eq, then-eq-via-else-eq+then-is_open}
use Rattle.ele_state.proofs.mark.change_at.Goals as goal

pub returns-in_err-info : goal.returns-in_err-info
returns-in_err-info c = rw c.from_residual.ensures (none_lived c.args.rows.now c.args.file c.args.mark c.requires.sound c.args.change.now c.in_err-info.ensures)

pub returns-in_err-ended : goal.returns-in_err-ended
returns-in_err-ended c = rw c.from_residual-in_err-ended.ensures (stays c.args.rows.now c.args.file c.args.mark c.requires.sound c.args.change.now c.in_ok-info.info c.in_ok-info.ensures (rw c.in_err-ended.was refl))

pub covers-requires-clause-named : goal.covers-requires-clause-named
covers-requires-clause-named c = (c.requires.sound.formed.holds Groups).named

pub returns-then-eq : goal.returns-then-eq
returns-then-eq c = stays c.args.rows.now c.args.file c.args.mark c.requires.sound c.args.change.now c.in_ok-info.info c.in_ok-info.ensures (elim c.then-eq.branch [
  | then-eq-via-then-eq w ↦ let same : c.covers.result.0 ≡ c.covers.result.1 = grind (arith, nat_tests, c.eq.ensures, w.if-eq.true) in rw (c.in_ok-ended.was, ← c.covers.ensures.is, ← c.covers.ensures.was, same) refl
  | then-eq-via-else-eq+then-is_open w ↦ rw (sym w.is_open.ensures ∙ w.if-is_open.true) refl
])

pub returns-in_err-rule : goal.returns-in_err-rule
returns-in_err-rule c =
    let unruled = sym c.requires.rule ∙ c.in_err-rule.was in
    rw c.from_residual-in_err-rule.ensures (stays c.args.rows.now c.args.file c.args.mark c.requires.sound c.args.change.now c.in_ok-info.info c.in_ok-info.ensures (rw (c.in_ok-ended.was, unruled) refl))

pub returns-in_err-ripe : goal.returns-in_err-ripe
returns-in_err-ripe c =
    let ruled = sym c.requires.rule ∙ c.in_ok-rule.was in
    let ripe = rw c.case.ensures at (sym c.ripe.ensures.near ∙ c.in_err-ripe.was) in
    rw c.from_residual-in_err-ripe.ensures (stays c.args.rows.now c.args.file c.args.mark c.requires.sound c.args.change.now c.in_ok-info.info c.in_ok-info.ensures (rw (c.in_ok-ended.was, ruled, ripe) refl))

pub returns : goal.returns
returns c =
    let unread = sym c.is_open.ensures ∙ c.if-is_open.false in
    let ruled = sym c.requires.rule ∙ c.in_ok-rule.was in
    let ripe = rw c.case.ensures at (sym c.ripe.ensures.near ∙ c.in_ok-ripe.was) in
    changes c.args.rows.now c.args.file c.args.mark c.requires.sound c.args.change.now c.in_ok-info.info c.in_ok-info.ensures c.ripe_past.result c.ripe_past-2.result
    (rw (unread, c.in_ok-ended.was, ruled, ripe, ← c.covers.ensures.was) (sym c.ripe_past.ensures))
    (rw (unread, c.in_ok-ended.was, ruled, ripe, ← c.covers.ensures.is) (sym c.ripe_past-2.ensures))
