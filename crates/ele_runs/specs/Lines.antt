-- Lines of an input.
use Rattle.std.specs.Prelude.{◌≡◌, ◌≢◌, ℕ, ◌+◌, List, [], ◌∷◌, ◌++◌, length}
use Rattle.std.specs.List.{flat_map, AllByRecursion}

-- it has no line feed
abbrev pub IsUnbroken : List ℕ → Type 0
IsUnbroken line = AllByRecursion (λ b. b ≢ 10) line

-- a line, and its line feed
abbrev pub whole_line : List ℕ → List ℕ
whole_line line = line ++ 10 ∷ []

-- whole lines, each with its line feed
abbrev pub whole_lines : List (List ℕ) → List ℕ
whole_lines lines = flat_map whole_line lines

-- the input is these whole lines, and then a last one without its line feed, which may be empty
pub record AreLines (input : List ℕ) (lines : List (List ℕ)) (last : List ℕ) : Type 0 where
  pub parts : input ≡ whole_lines lines ++ last
  pub whole : AllByRecursion IsUnbroken lines
  pub cut : IsUnbroken last

-- the number of lines: a last one counts unless it is empty
abbrev pub line_count : List (List ℕ) → List ℕ → ℕ
line_count lines [] = length lines
line_count lines (b ∷ bs) = length lines + 1
