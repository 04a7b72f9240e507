-- The number that digits spell. No public clause cites this module.
use Rattle.std.specs.Prelude.{◌≡◌, ℕ, ◌^◌, ◌<◌, List}
use Rattle.std.specs.Str.Parse.{AllDigits, digits_value}

-- the word is digits, which spell the number, and it has 64 bits
pub record IsWritten (word : List ℕ) (n : ℕ) : Type 0 where
  pub digits : AllDigits 10 word
  pub value : n ≡ digits_value 10 word
  pub fits : n < 2 ^ 64
