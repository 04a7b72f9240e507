-- What stays and what is freed over time, as a table and as CSV: a line for each moment.
use Rattle.std.specs.Prelude.{ℕ, Bool, true, List, ◌∷◌, ◌++◌, codes, decimal}
use Rattle.std.specs.List.{flat_map}
use Rattle.ele_forecast_text.specs.Stamp.{stamp_of}
use Rattle.ele_forecast_text.specs.declared.plan.Plan.{Plan}
use Rattle.ele_forecast_forms.specs.Parts.{part_if}
use Rattle.ele_space.specs.declared.amounts.Amount.{Amount}
use Rattle.ele_space.specs.declared.amounts.Amounts.{Amounts}

-- the bytes of those that stay, and those that are freed, if versions have sizes; each has this byte before it
abbrev pub bytes_text : ℕ → Bool → Amount → List ℕ
bytes_text mark sizes amount = part_if sizes ((mark ∷ decimal amount.bytes) ++ (mark ∷ decimal amount.freed))

-- how many stay, and these bytes
abbrev pub amount_text : ℕ → Bool → Amount → List ℕ
amount_text mark sizes amount = (mark ∷ decimal amount.count) ++ bytes_text mark sizes amount

abbrev pub amounts_line : ℕ → Bool → Amounts → List ℕ
amounts_line mark sizes row = stamp_of row.at ++ (flat_map (amount_text mark sizes) row.amounts.items ++ codes "\n")

-- the headings of the policy of that word in the table
abbrev pub table_columns : List ℕ → List ℕ
table_columns word = codes " " ++ (word ++ codes " bytes freed")

abbrev pub amounts_text : List Plan → List Amounts → List ℕ
amounts_text plans rows =
    codes "at" ++ (flat_map (λ plan. table_columns plan.word.items) plans ++ (codes "\n" ++ flat_map (amounts_line 32 true) rows))

-- the ends of its headings in CSV, but for the last quotation mark
abbrev pub size_columns : Bool → List ℕ → List ℕ
size_columns sizes word = part_if sizes (codes "\",\"bytes " ++ (word ++ (codes "\",\"freed " ++ word)))

-- its headings in CSV, within quotation marks
abbrev pub csv_columns : Bool → List ℕ → List ℕ
csv_columns sizes word = codes ",\"kept " ++ (word ++ (size_columns sizes word ++ codes "\""))

abbrev pub amounts_csv : Bool → List Plan → List Amounts → List ℕ
amounts_csv sizes plans rows =
    codes "at" ++ (flat_map (λ plan. csv_columns sizes plan.word.items) plans ++ (codes "\n" ++ flat_map (amounts_line 44 sizes) rows))
