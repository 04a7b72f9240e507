use Rattle.std.specs.Prelude.{[], ◌∷◌, ◌++◌, drop}
use Rattle.std.specs.List.{flat_map}
use Rattle.ele_output.specs.Prints.{outlet}
use Rattle.ele_forecast_forms.specs.Json.{escaped, string_text}
use Rattle.ele_output.proofs.Known.{HasPut}
use Rattle.ele_forecast_forms.proofs.json_parts.put_string.Given as goal

-- the bytes so far are put, and the others and a quotation mark are left
abbrev pub invariant-loop-byte : goal.invariant-loop-byte
invariant-loop-byte g l =
    HasPut (outlet g.W.Write.contents l.fn.printer) (outlet g.W.Write.contents l.printer) (l.before ++ string_text l.text) (flat_map escaped (drop l.byte-index l.text) ++ 34 ∷ [])
