use Rattle.std.specs.Prelude.{drop}
use Rattle.ele_output.specs.Prints.{outlet}
use Rattle.ele_forecast_text.specs.Labels.{names_text}
use Rattle.ele_output.proofs.Known.{HasPut}
use Rattle.ele_forecast_text.proofs.label.put_names.Given as goal

-- the names so far are printed, and the others are left
abbrev pub invariant-loop-number : goal.invariant-loop-number
invariant-loop-number g l =
    HasPut (outlet g.W.Write.contents l.fn.printer) (outlet g.W.Write.contents l.printer) (names_text l.labels l.numbers) (names_text l.labels (drop l.number-index l.numbers))
