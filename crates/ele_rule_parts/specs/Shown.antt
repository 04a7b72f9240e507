-- What a clock shows at a moment, and the row of a backup.
use Rattle.std.specs.Prelude.{◌≡◌, ℕ, ◌+◌, ◌*◌, ◌/◌}
use Rattle.ele_moment.specs.Day.{IsDay, IsDayNumber}
use Rattle.ele_rule_parts.specs.declared.row.Offset.{Offset}
use Rattle.ele_rule_parts.specs.declared.row.Offset.TheVariants.{Ahead, Behind}
use Rattle.ele_rule_parts.specs.declared.row.Row.{Row}
use Rattle.ele_rule_parts.specs.declared.span.Span.{Span}

-- at the moment a clock of that offset shows the seconds since 1970 began on it
abbrev pub IsShown : ℕ → Offset → ℕ → Type 0
IsShown m (Ahead seconds) local = local ≡ m + seconds
IsShown m (Behind seconds) local = m ≡ local + seconds

-- the month of a day, which is counted from 1970-01-01; months are counted from January 1970
pub record IsMonth (day_number month : ℕ) : Type 0 where
  pub year : ℕ
  pub place : ℕ
  pub day : ℕ
  pub is : IsDay year place day
  pub number : IsDayNumber year place day day_number
  pub month_is : month + 23641 ≡ 12 * year + place

-- the row of a backup that was made at the moment, by a clock with the offset, and of that kind
pub record IsRow (m : ℕ) (offset : Offset) (kind : Span) (row : Row) : Type 0 where
  pub moment : row.moment ≡ m
  pub local : IsShown m offset row.local
  pub month : IsMonth (row.local / 86400) row.month
  pub kind_is : row.kind ≡ kind
