-- The rows of names, by birth. No public clause cites this module.
use Rattle.std.specs.Prelude.{◌≡◌, ℕ, ◌<◌, ◌^◌, ◌==◌, ◌&&◌, ◌||◌, nat_lt, nat_le, Bool, true, false, Option, slice_get}
use Rattle.std.specs.Option.{option_and_then, option_map_or}
use Rattle.std.specs.Ordering.{nat_cmp}
use Rattle.ele_rows.specs.Index.{has}
use Rattle.ele_rows.specs.Serial.{is_placed}
use Rattle.ele_names.specs.declared.birth_index.BirthIndex.{BirthIndex}
use Rattle.ele_names.specs.declared.birth_index.Born.{Born}

-- the newest row of the name with the number
abbrev pub newest_of : BirthIndex → ℕ → Option Born
newest_of birth_index q = option_and_then (λ o. o) (slice_get birth_index.newest.items q)

-- the row has that birth and that serial number
abbrev pub is_born : ℕ → ℕ → Born → Bool
is_born r s born = (born.birth == r) && (born.serial == s)

-- that birth and serial number are those of the row, or come before
abbrev pub is_up_to : ℕ → ℕ → Born → Bool
is_up_to r s born = nat_lt r born.birth || ((r == born.birth) && nat_le s born.serial)

-- the index has the serial number under the name and the birth
abbrev pub has_birth : BirthIndex → ℕ → ℕ → ℕ → Bool
has_birth birth_index q r s = option_map_or (is_born r s) (newest_of birth_index q) false || has nat_cmp birth_index.older q r s

-- the rows in the tree come before the newest row of their name
pub record AreBelow (birth_index : BirthIndex) : Type 0 where
  pub each : (q r s : ℕ) → r < 2 ^ 64 → s < 2 ^ 64 → has nat_cmp birth_index.older q r s ≡ true → option_map_or (is_up_to r s) (newest_of birth_index q) false ≡ true

-- the index has each serial number under the name and the birth of its row, and no other
pub record AreBirthsOf {X : Type 0} (name : X → ℕ) (birth : X → ℕ) (at : ℕ → Option X) (birth_index : BirthIndex) : Type 0 where
  pub each : (q r s : ℕ) → has_birth birth_index q r s ≡ option_map_or (λ x. is_placed nat_cmp (name x) (birth x) q r) (at s) false
  pub below : AreBelow birth_index
