-- What is kept here and there, as an object of JSON.
use Rattle.std.specs.Prelude.{ℕ, List, ◌++◌, codes, decimal, map}
use Rattle.std.specs.List.{join_with_byte}
use Rattle.ele_forecast_text.specs.declared.details.Details.{Details}
use Rattle.ele_forecast_forms.specs.Json.{staying_text}
use Rattle.ele_against.specs.declared.compared.Compared.{Compared}

-- the lines that are no label of a version, and the end of the object
abbrev pub unknown_end : List ℕ → List ℕ
unknown_end lines = codes ",\"no_version\":[" ++ (join_with_byte 44 (map decimal lines) ++ codes "]}")

abbrev pub compared_json : Details → Compared → List ℕ
compared_json details compared =
    codes "{\"both\":" ++ (staying_text details compared.both ++ (codes ",\"only_here\":" ++ (staying_text details compared.here
    ++ (codes ",\"only_there\":" ++ (staying_text details compared.there ++ unknown_end compared.unknown.items)))))
