-- Which words spell a length of time.
use Rattle.std.specs.Prelude.{◌≡◌, ℕ, ◌*◌, ◌^◌, ◌<◌, ◌==◌, ◌⊎◌, List, [], ◌∷◌, ◌++◌, Option, Some, None, if◌then◌else◌}
use Rattle.ele_moment.specs.Number.{SpellsNumber}

-- the seconds of a unit, by its letter: `s` (115), `m` (109), `h` (104), `d` (100), `w` (119), and `y` (121), which is 365 days
abbrev pub unit_of : ℕ → Option ℕ
unit_of letter =
    if letter == 115 then Some 1 else (if letter == 109 then Some 60 else (if letter == 104 then Some 3600 else (if letter == 100 then Some 86400 else (if letter == 119 then Some 604800 else (if letter == 121 then Some 31536000 else None)))))

-- so many seconds as that number of units has
pub record IsCountOf (number : List ℕ) (unit seconds : ℕ) : Type 0 where
  pub count : ℕ
  pub number_is : SpellsNumber number count
  pub worth : seconds ≡ count * unit

-- a number, and the letter of a unit behind it
pub record SpellsUnits (word : List ℕ) (seconds : ℕ) : Type 0 where
  pub number : List ℕ
  pub letter : ℕ
  pub unit : ℕ
  pub text : word ≡ number ++ letter ∷ []
  pub unit_is : unit_of letter ≡ Some unit
  pub worth : IsCountOf number unit seconds

-- a number of seconds, or of units
pub record SpellsLength (word : List ℕ) (seconds : ℕ) : Type 0 where
  pub fits : seconds < 2 ^ 64
  pub form : SpellsNumber word seconds ⊎ SpellsUnits word seconds
