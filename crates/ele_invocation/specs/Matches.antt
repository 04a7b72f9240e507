-- What the matches of a command say of its arguments.
use Rattle.std.specs.Prelude.{◌≡◌, ℕ, Bool, false, List, [], Some, is_some, unwrap_or, codes}
use Rattle.std.specs.Option.{option_map_or}
use Rattle.std.specs.Str.{bytes_eq}
use Rattle.ele_moment.specs.Number.{SpellsNumber}
use Rattle.clap.specs.Words.{Row, Text, all_of, first_of}

-- the flag was used: clap gives each flag the value `true` or `false`
abbrev pub is_on : Text → List Row → Bool
is_on name rows = option_map_or (λ value. bytes_eq value (codes "true")) (first_of name rows) false

-- the option has a value, by the words or by default
abbrev pub is_given : Text → List Row → Bool
is_given name rows = is_some (first_of name rows)

-- each value of an option that may be used several times
abbrev pub values_of : Text → List Row → List Text
values_of name rows = unwrap_or (all_of name rows) []

-- the value of the option spells the number
pub record HasNumber (name : Text) (rows : List Row) (number : ℕ) : Type 0 where
  pub word : Text
  pub given : first_of name rows ≡ Some word
  pub spelled : SpellsNumber word number
