-- The held versions of one file, as contracts see them.
use Rattle.std.specs.Prelude.{◌≡◌, ℕ, ◌<◌, ◌≤◌, ◌==◌, ◌&&◌, Bool, true, nat_lt, nat_le, not, List, Some, None, IfSome, IsSomeAnd}
use Rattle.std.specs.Option.{option_map_or}
use Rattle.std.specs.List.{AllByRecursion}
use Rattle.ele_inode_log.specs.declared.row.VersionRow.{VersionRow}
pub use Rattle.ele_lists.specs.Lists.{AllLater}
pub use Rattle.ele_lists.specs.Ends.{last_of, update_last}

-- the rows by number, and how many more fit into the reserved memory
pub record HeldRows : Type 0 where
  pub rows : List VersionRow
  pub spare : ℕ

-- the row has that number
abbrev pub has_number : ℕ → VersionRow → Bool
has_number number row = row.number == number

-- the row has another number
abbrev pub is_other : ℕ → VersionRow → Bool
is_other number row = not (row.number == number)

-- the row has a greater number
abbrev pub is_after : ℕ → VersionRow → Bool
is_after number row = nat_lt number row.number

-- the row has a lesser number
abbrev pub is_before : ℕ → VersionRow → Bool
is_before number row = nat_lt row.number number

-- the version closed at that moment or before it
abbrev pub has_closed_by : ℕ → VersionRow → Bool
has_closed_by moment row = nat_le row.closed moment

-- the version ended after that moment, or has no end
abbrev pub ends_after : ℕ → VersionRow → Bool
ends_after moment row = option_map_or (λ ended. nat_lt moment ended) row.ended true

-- the moment is in the version's life
abbrev pub lives_at : ℕ → VersionRow → Bool
lives_at moment row = has_closed_by moment row && ends_after moment row

-- the row with that end
abbrev pub ended_at : ℕ → VersionRow → VersionRow
ended_at moment row = record row { ended = Some moment }

-- the version has no end, and closed at that moment or before it
pub record CanEndAt (moment : ℕ) (row : VersionRow) : Type 0 where
  pub no_end : row.ended ≡ None
  pub closed : row.closed ≤ moment

-- if it ended, then no earlier than it closed
abbrev pub EndsInTime : VersionRow → Type 0
EndsInTime row = IfSome row.ended (λ ended. row.closed ≤ ended)

-- the first has the lesser number, and ended no later than the second closed
pub record Precedes (earlier later : VersionRow) : Type 0 where
  pub number : earlier.number < later.number
  pub ended : IsSomeAnd earlier.ended (λ ended. ended ≤ later.closed)

-- each row ended in time, and precedes the later ones
pub record AreInOrder (rows : List VersionRow) : Type 0 where
  pub ends : AllByRecursion EndsInTime rows
  pub order : AllLater Precedes rows
