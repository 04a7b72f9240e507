use Rattle.ele_state.proofs.Words.{refl, sym, ◌∙◌}
use Rattle.ele_state.proofs.Governed.{changes_under, stays_under}
use Rattle.ele_state.proofs.policy.change_under.Goals as goal

pub returns-then-is_open : goal.returns-then-is_open
returns-then-is_open c = stays_under c.args.rows.now.groups c.args.rows.now.files c.args.file c.args.was.now c.args.is.now c.args.info.now c.requires (rw (sym c.is_open.ensures ∙ c.if-is_open.true) refl)

pub returns-in_err-ended : goal.returns-in_err-ended
returns-in_err-ended c = rw c.from_residual.ensures (stays_under c.args.rows.now.groups c.args.rows.now.files c.args.file c.args.was.now c.args.is.now c.args.info.now c.requires (rw c.in_err-ended.was refl))

pub returns : goal.returns
returns c =
    let unread = sym c.is_open.ensures ∙ c.if-is_open.false in
    changes_under c.args.rows.now.groups c.args.rows.now.files c.args.file c.args.was.now c.args.is.now c.args.info.now c.requires c.case_moment.result c.case_moment-2.result
    (rw (unread, c.in_ok-ended.was) (rw c.case.ensures at (sym c.case_moment.ensures)))
    (rw (unread, c.in_ok-ended.was) (rw (c.case.ensures, c.has_newer.ensures) at (sym c.case_moment-2.ensures)))
