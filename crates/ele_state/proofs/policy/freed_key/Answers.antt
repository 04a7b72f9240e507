use Rattle.ele_state.proofs.Words.{None, refl, sym, ◌∙◌}
use Rattle.ele_state.proofs.Freed.{freed_more, freed_same}
use Rattle.ele_state.proofs.policy.freed_key.Goals as goal

pub returns-in_err-info : goal.returns-in_err-info
returns-in_err-info c = λ k. rw c.from_residual.ensures (freed_same c.args.rows.now.groups c.args.rows.now.files c.args.file c.args.head.now.policy c.args.rows.now.moment c.requires.placed c.args.newer k c.in_err-info.ensures)

pub returns-then-is_open : goal.returns-then-is_open
returns-then-is_open c = λ k. freed_more c.args.rows.now.groups c.args.rows.now.files c.args.file c.args.head.now.policy c.args.rows.now.moment c.requires.placed c.args.newer k c.in_ok-info.info None c.in_ok-info.ensures (rw (sym c.is_open.ensures ∙ c.if-is_open.true) refl)

pub returns : goal.returns
returns c = λ k.
    let unread = sym c.is_open.ensures ∙ c.if-is_open.false in
    rw c.new_key.ensures (freed_more c.args.rows.now.groups c.args.rows.now.files c.args.file c.args.head.now.policy c.args.rows.now.moment c.requires.placed c.args.newer k c.in_ok-info.info c.case_moment-moment.result c.in_ok-info.ensures
    (c.case_moment-moment.ensures ∙ rw (unread, c.unwrap_or-ended.ensures) refl))
