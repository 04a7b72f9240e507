-- What is kept here and there, as rows of CSV: one for each version.
use Rattle.std.specs.Prelude.{ℕ, List, ◌∷◌, ◌++◌, codes}
use Rattle.std.specs.List.{flat_map}
use Rattle.ele_forecast_text.specs.declared.details.Details.{Details}
use Rattle.ele_forecast_forms.specs.Csv.{version_fields}
use Rattle.ele_forecast_forms.specs.Parts.{part_if}
use Rattle.ele_against.specs.declared.compared.Compared.{Compared}

abbrev pub heading_text : Details → List ℕ
heading_text details =
    codes "by,kept,version" ++ (part_if details.columns.labels (codes ",label") ++ (part_if details.columns.sizes (codes ",bytes") ++ codes "\n"))

-- by what the version is kept here, who keeps it, and the version
abbrev pub row_text : Details → List ℕ → List ℕ → ℕ → List ℕ
row_text details word group number =
    codes "\"" ++ (word ++ (codes "\"," ++ (group ++ (codes "," ++ (version_fields details number ++ codes "\n")))))

abbrev pub rows_text : Details → List ℕ → List ℕ → List ℕ → List ℕ
rows_text details word group numbers = flat_map (row_text details word group) numbers

abbrev pub compared_csv : Details → List ℕ → Compared → List ℕ
compared_csv details word compared =
    rows_text details word (codes "both") compared.both.numbers.items
    ++ (rows_text details word (codes "only-here") compared.here.numbers.items
    ++ rows_text details word (codes "only-there") compared.there.numbers.items)
