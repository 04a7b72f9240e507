use Rattle.ele_state.proofs.Words.{refl, cover_of, sym, world_of, ◌∙◌}
use Rattle.ele_state.proofs.Questions.{free_told, unended_free, unheld_free, unruled_free}
use Rattle.ele_state.proofs.moments.free_moment.Goals as goal

pub returns-in_err-info : goal.returns-in_err-info
returns-in_err-info c = rw c.from_residual.ensures (sym (unheld_free (world_of c.args.rows.now) (cover_of c.args.rows.now.groups c.args.file) c.args.file c.args.number c.in_err-info.ensures))

pub returns-in_err-ended : goal.returns-in_err-ended
returns-in_err-ended c = rw c.from_residual-in_err-ended.ensures (sym (unended_free (world_of c.args.rows.now) (cover_of c.args.rows.now.groups c.args.file) c.args.file c.args.number c.in_ok-info.info c.in_ok-info.ensures c.in_err-ended.was))

pub returns-in_default : goal.returns-in_default
returns-in_default c = sym (unruled_free (world_of c.args.rows.now) (cover_of c.args.rows.now.groups c.args.file) c.args.file c.args.number (rw c.in_default.ensures.none refl))

pub returns : goal.returns
returns c =
    let is = c.in-Some.ensures.some in
    rw is.case at c.case_moment.ensures
    ∙ sym (free_told (world_of c.args.rows.now) (cover_of c.args.rows.now.groups c.args.file) c.args.file c.args.number c.in_ok-info.info c.in_ok-info.ensures is.rule c.in_ok-ended.ended c.in_ok-ended.was (rw c.is_live-is_live.ensures at is.ruled))
