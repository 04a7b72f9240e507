use Rattle.std.specs.Prelude.{take}
use Rattle.ele_space.specs.Amounts.{AreAmountsAt}
use Rattle.ele_space.proofs.amounts.amounts_at.Given as goal

-- those of the moments so far
abbrev pub invariant-loop-moment : goal.invariant-loop-moment
invariant-loop-moment l = AreAmountsAt (take l.moment-index l.moments) l.closings l.sizes l.plans l.rows.items
