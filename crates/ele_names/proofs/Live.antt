-- The live rows by directory and name, and counts of them, when one is added or removed.
use Rattle.ele_names.proofs.Words.{◌≡◌, ℕ, Bool, true, false, cond, List, Some, None, Option, is_none, refl, sym, ◌∙◌, arith, option_map, nat_cmp, is_at, nat_tests, NameRow, Target, is_named, is_live_name, live_target, Live, LiveNames, AreCounted, AreNumbered, Leaves, live_at, live_in, ◌+◌, ◌-◌, ◌==◌, ◌&&◌, not, nat_lt, [], ◌∷◌, ◌++◌, count_by, list_any, AllByRecursion, AllLater, all-append, later-around, all-any, all-weaker, sum_by-around, sum_by-same, any_count, IsKept, Table, live_of, rows_of, Directory, File, is_live_name_of, is_target_file, is_live_in, is_target_directory, is_live_directory, is_live_of, Follows, target_eq}
use Rattle.ele_names.proofs.Apart.{named_dead, named_live, named_and_live, same_name}
use Rattle.ele_names.proofs.Numbers.{itself}

pub same_serial : (a b : ℕ) → is_at (nat_cmp a) b ≡ true → a ≡ b
same_serial a b h = grind (arith, nat_tests)

abbrev pub target_of : Option (Live Target) → Option Target
target_of found = option_map (λ live. live.target) found

-- what says the same of each name and directory is of the same rows
pub counted_same : (rows : List NameRow) (old new : LiveNames) → ((d : ℕ) (n : List ℕ) → live_at new d n ≡ live_at old d n)
    → ((d : ℕ) → live_in new.in_directory d ≡ live_in old.in_directory d) → AreCounted rows old → AreCounted rows new
counted_same rows old new named directories was = grind (arith, nat_tests)

pub numbered_same : (at to : ℕ → Option NameRow) (old new : LiveNames) → ((s : ℕ) → to s ≡ at s) → ((d : ℕ) (n : List ℕ) → live_at new d n ≡ live_at old d n) → AreNumbered at old → AreNumbered to new
numbered_same at to old new same named was = grind (arith, nat_tests, same, named, was.each)

pub own_name : (row : NameRow) → is_named row.directory row.name row ≡ true
own_name row = itself (row.directory, row.name)

module _ (row : NameRow) (d : ℕ) (n : List ℕ) where
  unnamed : is_named d n row ≡ false → is_live_name d n row ≡ false
  unnamed e = grind (arith, nat_tests, named_dead d n row)

  -- the row's name is live now
  pub entered : (was now : List NameRow) → Leaves row now was → is_none row.death ≡ true → (live : Live Target) (o p : Option (Live Target)) → p ≡ cond (is_named d n row) (Some live) o → live.target ≡ row.target
      → target_of o ≡ live_target was d n → target_of p ≡ live_target now d n
  entered was now leaves live_names live o p changed target before = grind (arith, nat_tests, changed, leaves.its d n, leaves.named d n, named_live d n row, unnamed)

  -- or is live no more
  pub left : (was now : List NameRow) → Leaves row was now → is_none row.death ≡ true → (o p : Option (Live Target)) → p ≡ cond (is_named d n row) None o
      → target_of o ≡ live_target was d n → target_of p ≡ live_target now d n
  left was now leaves live_names o p changed before = grind (arith, nat_tests, is_named, live_target, named_live, unnamed)

  pub dead_left : (was now : List NameRow) → Leaves row was now → is_none row.death ≡ false → live_target was d n ≡ live_target now d n
  dead_left was now leaves dead = sym (leaves.named d n ∙ rw (named_dead d n row (λ _. dead)) refl)

  -- what is there without the row was there, and isn't the row
  pub others_live : (o p : Option (Live Target)) (live : Live Target) → p ≡ cond (is_named d n row) None o → p ≡ Some live → (o ≡ Some live) × (is_live_name d n row ≡ false)
  others_live o p live changed is = grind (arith, nat_tests, is_named, is_live_name, unnamed)

module _ (row : NameRow) (serial : ℕ) (at : ℕ → Option NameRow) (old new : LiveNames) (was : AreNumbered at old) where
  -- a live row of a new serial number
  pub numbered_with : at serial ≡ None → is_none row.death ≡ true → (entry : Live Target) → entry.serial ≡ serial
      → ((d : ℕ) (n : List ℕ) → live_at new d n ≡ cond (is_named d n row) (Some entry) (live_at old d n))
      → AreNumbered (λ s. cond (is_at (nat_cmp serial) s) (Some row) (at s)) new
  numbered_with fresh live_names entry own changed = record { each = λ d n live is. grind (arith, nat_tests, changed d n, was.each d n live, same_serial serial live.serial, named_live d n row) }

  -- the row dies or leaves
  pub numbered_without : (to : ℕ → Option NameRow) → at serial ≡ Some row → ((s : ℕ) → is_at (nat_cmp serial) s ≡ false → to s ≡ at s)
      → ((d : ℕ) (n : List ℕ) (live : Live Target) → live_at new d n ≡ Some live → (live_at old d n ≡ Some live) × (is_live_name d n row ≡ false))
      → AreNumbered to new
  numbered_without to there elsewhere others = record { each = λ d n live is. grind (arith, nat_tests, others d n live is, was.each d n live, elsewhere live.serial, same_serial serial live.serial) }

-- a live row of the name is at the serial number
pub record LiveRow (at : ℕ → Option NameRow) (d : ℕ) (n : List ℕ) (s : ℕ) : Type 0 where
  pub row : NameRow
  pub there : at s ≡ Some row
  pub live : is_live_name d n row ≡ true

pub stands_live : (at : ℕ → Option NameRow) (live_names : LiveNames) → AreNumbered at live_names → (d : ℕ) (n : List ℕ) (live : Live Target) → live_at live_names d n ≡ Some live → LiveRow at d n live.serial
stands_live at live_names numbered d n live found = grind (arith, nat_tests, numbered.each d n live found)

-- what a test counts of one row that is live, or dead
pub live_one : (a b : Bool) → b ≡ true → ◌≡◌ {A = ℕ} (cond (a && b) 1 0) (cond a 1 0)
live_one a b h = grind (arith, nat_tests)

pub dead_one : (a b : Bool) → b ≡ false → ◌≡◌ {A = ℕ} (cond (a && b) 1 0) 0
dead_one a b h = grind (arith, nat_tests)

-- what is live of a name, without a row that isn't
target_around : (d : ℕ) (n : List ℕ) (before : List NameRow) (row : NameRow) (behind : List NameRow) → is_live_name d n row ≡ false → live_target (before ++ row ∷ behind) d n ≡ live_target (before ++ behind) d n
target_around d n [] row behind h = grind (arith, nat_tests)
target_around d n (b ∷ before) row behind h = grind (arith, nat_tests, target_around d n before row behind h)

none_named : (d : ℕ) (n : List ℕ) (rows : List NameRow) → AllByRecursion (λ row. is_live_name d n row ≡ false) rows → live_target rows d n ≡ None
none_named d n [] none = refl
none_named d n (row ∷ rows) none = rw none.0 (none_named d n rows none.1)

-- a name that may be given is live nowhere
pub free_known : (rows : List NameRow) (live_names : LiveNames) (d : ℕ) (n : List ℕ) (born : NameRow) → is_named d n born ≡ true → AreCounted rows live_names → AllByRecursion (λ row. Follows row born) rows → live_at live_names d n ≡ None
free_known rows live_names d n born named counted follow =
    let none = none_named d n rows (all-weaker (λ b. Follows b born) (λ b. is_live_name d n b ≡ false) rows (λ b follows. grind (arith, nat_tests, named, named_dead d n b, same_name d n b born, follows.apart)) follow) in
    grind (arith, nat_tests, none, counted.named d n)

module _ (row : NameRow) (before behind : List NameRow) (apart : AllLater Follows (before ++ row ∷ behind)) where
  module _ (d : ℕ) (n : List ℕ) where
    earlier : is_live_name d n row ≡ true → AllByRecursion (λ b. is_live_name d n b ≡ false) before
    earlier is = all-weaker (λ b. Follows b row) (λ b. is_live_name d n b ≡ false) before (λ b follows. grind (arith, nat_tests, is, named_and_live d n row, named_dead d n b, same_name d n b row, follows.apart)) (later-around Follows before row behind apart).0

    later : is_live_name d n row ≡ true → AllByRecursion (λ b. is_live_name d n b ≡ false) behind
    later is = all-weaker (Follows row) (λ b. is_live_name d n b ≡ false) behind (λ b follows. grind (arith, nat_tests, is, named_and_live d n row, named_dead d n b, same_name d n row b, follows.apart)) (later-around Follows before row behind apart).1

    stands : (xs : List NameRow) → AllByRecursion (λ b. is_live_name d n b ≡ false) xs → is_live_name d n row ≡ true → live_target (xs ++ row ∷ behind) d n ≡ Some row.target
    stands [] none is = rw is refl
    stands (x ∷ xs) none is = rw none.0 (stands xs none.1 is)

    its : is_live_name d n row ≡ true → live_target (before ++ row ∷ behind) d n ≡ Some row.target
    its is = stands before (earlier is) is

    named : live_target (before ++ behind) d n ≡ cond (is_live_name d n row) None (live_target (before ++ row ∷ behind) d n)
    named = grind (arith, nat_tests, is_live_name, live_target, none_named, all-append, earlier, later, target_around)

  pub leaves_without : Leaves row (before ++ row ∷ behind) (before ++ behind)
  leaves_without = grind (arith, nat_tests, named, its, sum_by-around, is_live_in, is_live_of)

  -- a dead row in its place
  pub leaves_dead : (dead : NameRow) → is_none dead.death ≡ false → Leaves row (before ++ row ∷ behind) (before ++ dead ∷ behind)
  leaves_dead dead died = grind (arith, nat_tests, named, target_around, named_dead, its, sum_by-around, is_live_in, dead_one, is_none, is_live_of, target_eq)

-- nothing passes if the count is 0
pub none_counted : {X : Type 0} (p : X → Bool) (xs : List X) → not (list_any p xs) ≡ (count_by p xs == 0)
none_counted p xs = grind (arith, nat_tests, not, any_count, count_by, nat_lt)

-- the names of a directory, found as those of the target
pub directory_names : (table : Table) (live_names : LiveNames) → IsKept table live_names → (d : ℕ) → live_of table.places (Directory d) ≡ count_by (is_live_directory d) (rows_of table)
directory_names table live_names kept d = grind (arith, nat_tests, kept.targets (Directory d), sum_by-same, is_live_of, is_live_directory, all-any, is_none, target_eq, is_target_directory)

-- and of a file
pub file_names : (table : Table) (live_names : LiveNames) → IsKept table live_names → (f : ℕ) → live_of table.places (File f) ≡ count_by (is_live_name_of f) (rows_of table)
file_names table live_names kept f = grind (arith, nat_tests, kept.targets (File f), sum_by-same, is_live_of, is_live_name_of, all-any, is_none, target_eq, is_target_file)

-- the counts by target, when a live row is added
pub target_with : (t : Target) (row : NameRow) (was now : List NameRow) → Leaves row now was → is_none row.death ≡ true → (old new : ℕ) → old ≡ count_by (is_live_of t) was → new ≡ old + cond (target_eq row.target t) 1 0
    → new ≡ count_by (is_live_of t) now
target_with t row was now leaves live_names old new counts changed = omega (arith, changed, counts, live_one (target_eq row.target t) (is_none row.death) live_names, leaves.of_target t)

-- or any row goes
pub target_without : (t : Target) (row : NameRow) (was now : List NameRow) → Leaves row was now → (old new : ℕ) → old ≡ count_by (is_live_of t) was → new ≡ old - cond (is_live_of t row) 1 0
    → new ≡ count_by (is_live_of t) now
target_without t row was now leaves old new counts changed = omega (arith, changed, counts, leaves.of_target t)
