use Rattle.ele_files.proofs.Newer.{enough_in_log, none_enough}
use Rattle.ele_files.proofs.Words.{sym, ◌∙◌}
use Rattle.ele_files.proofs.files.Files.has_newer.Goals as goal

pub returns-in-Some : goal.returns-in-Some
returns-in-Some c =
    let found = sym (rw c.deref.ensures.value at c.in-Some.ensures) in
    rw (← c.self.view_is) (c.has_newer.ensures ∙ enough_in_log _ _ _ c.self.invariant c.args.file c.in-Some.held.now found c.args.number c.args.count)

pub returns-in-None : goal.returns-in-None
returns-in-None c =
    let none = sym (rw c.deref.ensures.value at c.in-None.ensures) in
    rw (← c.self.view_is) (none_enough _ _ _ c.self.invariant c.args.file c.args.number c.args.count none)
