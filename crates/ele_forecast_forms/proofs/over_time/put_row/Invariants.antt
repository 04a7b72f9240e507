use Rattle.std.specs.Prelude.{ℕ, ◌∷◌, ◌++◌, codes, decimal, drop}
use Rattle.std.specs.List.{flat_map}
use Rattle.ele_output.specs.Prints.{outlet}
use Rattle.ele_forecast_forms.specs.OverTime.{counts_line}
use Rattle.ele_output.proofs.Known.{HasPut}
use Rattle.ele_forecast_forms.proofs.over_time.put_row.Given as goal

-- the counts so far are put, and the others and the end of the line are left
abbrev pub invariant-loop-count : goal.invariant-loop-count
invariant-loop-count g l =
    HasPut (outlet g.W.Write.contents l.fn.printer) (outlet g.W.Write.contents l.printer) (counts_line l.row) (flat_map (λ (count : ℕ). 32 ∷ decimal count) (drop l.count-index l.counts) ++ codes "\n")
