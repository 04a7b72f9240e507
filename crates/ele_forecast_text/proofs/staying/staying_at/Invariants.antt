use Rattle.std.specs.Prelude.{take}
use Rattle.ele_forecast_text.specs.Table.{AreStayings}
use Rattle.ele_forecast_text.proofs.staying.staying_at.Given as goal

-- the stayings of the moments so far
abbrev pub invariant-loop-at : goal.invariant-loop-at
invariant-loop-at l = AreStayings l.policy l.closings (take l.at-index l.moments) l.stayings.items
