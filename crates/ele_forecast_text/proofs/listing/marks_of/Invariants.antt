use Rattle.std.specs.Prelude.{take}
use Rattle.ele_forecast_text.specs.Marked.{IsMarked}
use Rattle.ele_forecast_text.proofs.listing.marks_of.Given as goal

-- the numbers so far are marked
abbrev pub invariant-loop-number : goal.invariant-loop-number
invariant-loop-number l = IsMarked (take l.number-index l.numbers) l.marks.items
