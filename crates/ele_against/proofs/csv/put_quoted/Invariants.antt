use Rattle.std.specs.Prelude.{[], ◌∷◌, ◌++◌, drop}
use Rattle.std.specs.List.{flat_map}
use Rattle.ele_output.specs.Prints.{outlet}
use Rattle.ele_forecast_forms.specs.Csv.{doubled, quoted}
use Rattle.ele_output.proofs.Known.{HasPut}
use Rattle.ele_against.proofs.csv.put_quoted.Given as goal

-- the bytes so far are put, and the others and a quotation mark are left
abbrev pub invariant-loop-byte : goal.invariant-loop-byte
invariant-loop-byte g l =
    HasPut (outlet g.W.Write.contents l.fn.printer) (outlet g.W.Write.contents l.printer) (44 ∷ quoted l.text) (flat_map doubled (drop l.byte-index l.text) ++ 34 ∷ [])
