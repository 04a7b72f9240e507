-- What is kept here and there, as lines of a table.
use Rattle.std.specs.Prelude.{ℕ, List, ◌∷◌, ◌++◌, codes, decimal, length}
use Rattle.std.specs.List.{flat_map}
use Rattle.ele_forecast_text.specs.Details.{bytes_of}
use Rattle.ele_forecast_text.specs.Stamp.{stamp_of}
use Rattle.ele_forecast_text.specs.declared.details.Details.{Details}
use Rattle.ele_forecast_text.specs.declared.staying.Staying.{Staying}
use Rattle.ele_forecast_forms.specs.Parts.{part_if}
use Rattle.ele_against.specs.declared.compared.Compared.{Compared}

-- numbers, each with a space (32) before it, and the end of the line
abbrev pub numbers_end : List ℕ → List ℕ
numbers_end numbers = codes ":" ++ (flat_map (λ number. 32 ∷ decimal number) numbers ++ codes "\n")

-- the bytes of the versions with these numbers
abbrev pub sum_text : List ℕ → List ℕ → List ℕ
sum_text sizes numbers = codes " with " ++ (decimal (bytes_of sizes numbers) ++ codes " bytes")

-- these, if versions have sizes
abbrev pub bytes_part : Details → List ℕ → List ℕ
bytes_part details numbers = part_if details.columns.sizes (sum_text details.sizes.items numbers)

-- how many they are, their bytes, and their numbers
abbrev pub group_end : Details → List ℕ → List ℕ
group_end details numbers = (codes " " ++ decimal (length numbers)) ++ (bytes_part details numbers ++ numbers_end numbers)

-- the moment, by what they are kept here, and by whom
abbrev pub group_start : List ℕ → List ℕ → Staying → List ℕ
group_start word group staying = codes "at " ++ (stamp_of staying.at ++ (32 ∷ word ++ 32 ∷ group))

abbrev pub group_line : Details → List ℕ → List ℕ → Staying → List ℕ
group_line details word group staying = group_start word group staying ++ group_end details staying.numbers.items

abbrev pub compared_text : Details → List ℕ → Compared → List ℕ
compared_text details word compared =
    group_line details word (codes "both") compared.both
    ++ (group_line details word (codes "only-here") compared.here ++ group_line details word (codes "only-there") compared.there)

-- the lines that are no label of a version
abbrev pub unknown_text : List ℕ → List ℕ
unknown_text lines = (codes "no-version " ++ decimal (length lines)) ++ numbers_end lines
