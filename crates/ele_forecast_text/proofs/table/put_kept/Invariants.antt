use Rattle.std.specs.Prelude.{ℕ, ◌∷◌, ◌++◌, codes, decimal, drop}
use Rattle.std.specs.List.{flat_map}
use Rattle.ele_output.specs.Prints.{outlet}
use Rattle.ele_forecast_text.specs.Table.{kept_text}
use Rattle.ele_output.proofs.Known.{HasPut}
use Rattle.ele_forecast_text.proofs.table.put_kept.Given as goal

-- the numbers so far are printed, and the others and the end of the line are left
abbrev pub invariant-loop-number : goal.invariant-loop-number
invariant-loop-number g l =
    HasPut (outlet g.W.Write.contents l.fn.printer) (outlet g.W.Write.contents l.printer) (kept_text l.details l.numbers) (flat_map (λ (number : ℕ). 32 ∷ decimal number) (drop l.number-index l.numbers) ++ codes "\n")
