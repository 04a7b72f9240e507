use Rattle.ele_names.proofs.Lemmas.{none_newest}
use Rattle.ele_names.proofs.names.Names.newest_by.Goals as goal

pub returns-in_err-serial-clause-newest : goal.returns-in_err-serial-clause-newest
returns-in_err-serial-clause-newest c = rw (c.from_residual-in_err-serial.ensures, ← c.self.view_is)
    (none_newest _ c.self.inside.table c.self.invariant.is_table _ _ _ _ c.in_ok-number.ensures.some.0 c.in_ok-number.ensures.some.1 c.in_err-serial.ensures.none)

pub last-requires : goal.last-requires
last-requires c = c.self.invariant.is_table.placed.named.below
