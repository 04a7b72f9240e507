-- CRC-32C, bit by bit: the remainder of the bytes by the Castagnoli polynomial, the lowest bit of a byte first.
use Rattle.std.specs.Prelude.{ℕ, zero, suc, ◌<◌, ◌/◌, ◌%◌, ◌==◌, bit_xor, List, [], ◌∷◌, if◌then◌else◌}
use Rattle.std.specs.List.{AllByRecursion}

-- one bit on: half of the number, and the polynomial taken off where a bit leaves
unfoldable pub shifted : ℕ → ℕ
shifted x = if x % 2 == 1 then bit_xor (x / 2) 0x82f63b78 else x / 2

-- so many bits on
unfoldable pub times : ℕ → ℕ → ℕ
times zero x = x
times (suc n) x = times n (shifted x)

-- all bytes, each eight bits on
abbrev pub after : ℕ → List ℕ → ℕ
after state [] = state
after state (byte ∷ bytes) = after (times 8 (bit_xor state byte)) bytes

-- it begins with all ones, and all bits are turned at the end
unfoldable pub sum : List ℕ → ℕ
sum bytes = bit_xor (after 0xffffffff bytes) 0xffffffff

-- each number is a byte
abbrev pub AreBytes : List ℕ → Type 0
AreBytes bytes = AllByRecursion (λ (byte : ℕ). byte < 256) bytes
