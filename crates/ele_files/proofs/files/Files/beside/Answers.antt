use Rattle.ele_files.proofs.Newer.{beside_shown, enough_in_log}
use Rattle.ele_files.proofs.Words.{refl, sym}
use Rattle.ele_files.proofs.files.Files.beside.Goals as goal

pub returns-clause-some : goal.returns-clause-some
returns-clause-some c =
    let found = sym (rw c.deref.ensures.value at c.in_ok-held.ensures) in
    rw (← c.self.view_is) (beside_shown _ _ _ c.self.invariant c.args.file c.in_ok-held.held.now found _ c.args.info.now c.args.is_live _ refl refl c.next_in-next.ensures
    (rw (c.closing.ensures, c.has_newer.ensures, c.rule_in-rule.ensures, enough_in_log _ _ _ c.self.invariant c.args.file c.in_ok-held.held.now found c.args.info.now.number) refl))
