use Rattle.ele_state.proofs.Words.{arith, is_version, nat_tests, subst, world_of, ℕ}
use Rattle.ele_state.proofs.Questions.{told_under}
use Rattle.ele_state.proofs.Changes.{none_any}
use Rattle.ele_model.specs.Fate.{HasFate}
use Rattle.ele_state.proofs.State.fate.Goals as goal

pub returns-in_err-info-clause-none : goal.returns-in_err-info-clause-none
returns-in_err-info-clause-none c = rw (← c.self.view_is) (grind (arith, nat_tests, none_any (is_version c.args.file c.args.number) c.self.inside.rows.files.versions, c.info.ensures))

pub fate_of-requires-clause-held : goal.fate_of-requires-clause-held
fate_of-requires-clause-held c = (told_under c.self.inside.rows.files c.args.file c.args.number c.in_ok-info.info c.in_ok-info.ensures).1

pub returns-clause-some : goal.returns-clause-some
returns-clause-some c =
    let its = (told_under c.self.inside.rows.files c.args.file c.args.number c.in_ok-info.info c.in_ok-info.ensures).0 in
    rw (← c.self.view_is) (subst (λ (n : ℕ). HasFate (world_of c.self.inside.rows) c.args.file n c.fate_of.result) its c.fate_of.ensures)
