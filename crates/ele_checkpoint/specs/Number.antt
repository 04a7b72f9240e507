-- The bytes of a number.
use Rattle.std.specs.Prelude.{ℕ, zero, suc, ◌+◌, ◌-◌, ◌/◌, ◌%◌, nat_lt, List, [], ◌∷◌, if◌then◌else◌}

-- a number in at most so many bytes and one more: seven bits a byte, the lowest first, with 128 added to all but the last
abbrev pub digits : ℕ → ℕ → List ℕ
digits zero n = n ∷ []
digits (suc more) n = if nat_lt n 128 then n ∷ [] else (n % 128 + 128) ∷ digits more (n / 128)

-- a number of 64 bits, in one to ten bytes
unfoldable pub number_text : ℕ → List ℕ
number_text n = digits 9 n
