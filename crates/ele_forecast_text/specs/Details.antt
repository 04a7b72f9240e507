-- The labels and sizes that the input gives versions.
use Rattle.std.specs.Prelude.{ℕ, ◌-◌, Bool, true, false, List, [], ◌∷◌, ◌++◌, codes, decimal, slice_get, unwrap_or, sum_by}
use Rattle.ele_forecast_text.specs.Labels.{name_of}
use Rattle.ele_forecast_text.specs.declared.details.Details.{Details}

-- the size of the version with the number, counted from 1, or 0 if it has none
abbrev pub size_of : List ℕ → ℕ → ℕ
size_of sizes number = unwrap_or (slice_get sizes (number - 1)) 0

-- the sum of the sizes of the versions with these numbers
abbrev pub bytes_of : List ℕ → List ℕ → ℕ
bytes_of sizes numbers = sum_by (size_of sizes) numbers

-- the words, if there is the column
abbrev pub words_if : Bool → List (List ℕ) → List (List ℕ)
words_if false words = []
words_if true words = words

-- the headings of the columns of labels and of sizes that there are
abbrev pub detail_headings : Details → List (List ℕ)
detail_headings details = words_if details.columns.labels (codes "label" ∷ []) ++ words_if details.columns.sizes (codes "bytes" ∷ [])

-- the label and the size of a version
abbrev pub detail_words : Details → ℕ → List (List ℕ)
detail_words details number =
    words_if details.columns.labels (name_of details.labels.items number ∷ [])
    ++ words_if details.columns.sizes (decimal (size_of details.sizes.items number) ∷ [])

-- the sum of the sizes of the versions with these numbers, if versions have sizes
abbrev pub total_words : Details → List ℕ → List (List ℕ)
total_words details numbers =
    words_if details.columns.sizes (codes "with" ∷ decimal (bytes_of details.sizes.items numbers) ∷ codes "bytes" ∷ [])
