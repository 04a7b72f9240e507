-- The members of each group, from the newest back. No public clause cites this module.
use Rattle.std.specs.Prelude.{◌≡◌, ℕ, ◌<◌, ◌^◌, Bool, true, false, cond, List, Option, Some, None, slice_get}
use Rattle.std.specs.Bool.{nat_eq}
use Rattle.std.specs.Option.{option_and_then, option_map_or}
use Rattle.ele_names.specs.declared.row_lists.RowLists.{RowLists}

-- the number passes, and is the last below the bound that does
pub record IsLast (passes : ℕ → Bool) (bound r : ℕ) : Type 0 where
  pub there : passes r ≡ true
  pub below : r < bound
  pub last : (s : ℕ) → r < s → s < bound → passes s ≡ false

-- the number is the last below the bound that passes, if any passes
abbrev pub IsLastBelow : (ℕ → Bool) → ℕ → Option ℕ → Type 0
IsLastBelow passes bound (Some r) = IsLast passes bound r
IsLastBelow passes bound None = (s : ℕ) → s < bound → passes s ≡ false

-- the entry of the number is the last one before it that passes
pub record HasOlder (passes : ℕ → Bool) (older : List (Option ℕ)) (s : ℕ) : Type 0 where
  pub number : Option ℕ
  pub there : slice_get older s ≡ Some number
  pub last : IsLastBelow passes s number

-- the newest member of the group
abbrev pub newest_in : RowLists → ℕ → Option ℕ
newest_in row_lists g = option_and_then (λ members. members.newest) (slice_get row_lists.groups.items g)

-- the count of the group's live members
abbrev pub live_in : RowLists → ℕ → ℕ
live_in row_lists g = option_map_or (λ members. members.live) (slice_get row_lists.groups.items g) 0

module _ {X : Type 0} (belongs : ℕ → X → Bool) (at : ℕ → Option X) where
  -- a member of the group has the number
  abbrev pub is_member : ℕ → ℕ → Bool
  is_member g s = option_map_or (belongs g) (at s) false

  -- the list has the newest member of each group, and the one before each member
  pub record AreChained (row_lists : RowLists) : Type 0 where
    pub newest : (g : ℕ) → IsLastBelow (is_member g) (2 ^ 64) (newest_in row_lists g)
    pub older : (g s : ℕ) → is_member g s ≡ true → HasOlder (is_member g) row_lists.older.items s

-- both have the same members and counts
pub record AreSame (old new : RowLists) : Type 0 where
  pub newest : (g : ℕ) → newest_in new g ≡ newest_in old g
  pub live : (g : ℕ) → live_in new g ≡ live_in old g
  pub older : new.older ≡ old.older

-- the entries before the number stay, with the newest and the count of each group
pub record Keeps (number : ℕ) (old new : RowLists) : Type 0 where
  pub newest : (g : ℕ) → newest_in new g ≡ newest_in old g
  pub live : (g : ℕ) → live_in new g ≡ live_in old g
  pub older : (s : ℕ) (o : Option ℕ) → s < number → slice_get old.older.items s ≡ Some o → slice_get new.older.items s ≡ Some o

-- the number is the group's newest, after the one that was newest
pub record Gains (group number : ℕ) (old new : RowLists) : Type 0 where
  pub newest : (g : ℕ) → newest_in new g ≡ cond (nat_eq group g) (Some number) (newest_in old g)
  pub live : (g : ℕ) → live_in new g ≡ live_in old g
  pub own : slice_get new.older.items number ≡ Some (newest_in old group)
  pub older : (s : ℕ) (o : Option ℕ) → s < number → slice_get old.older.items s ≡ Some o → slice_get new.older.items s ≡ Some o

-- the member before the number is now the group's newest
pub record Loses (group number : ℕ) (old new : RowLists) : Type 0 where
  pub newest : (g : ℕ) → newest_in new g ≡ cond (nat_eq group g) (option_and_then (λ o. o) (slice_get old.older.items number)) (newest_in old g)
  pub older : new.older.items ≡ old.older.items
