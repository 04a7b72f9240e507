-- Rows of one name are over when a later one is born, so the newest decides; and what the index by name says of them.
use Rattle.ele_names.proofs.Words.{◌≡◌, ℕ, ◌≤◌, Bool, true, false, ◌&&◌, ◌==◌, List, [], ◌∷◌, Some, Option, is_none, is_some, live_target, refl, ap, sym, ◌∙◌, arith, find, AllByRecursion, bytes_eq, false≢true, nat_tests, bytes_eq-Decides, AllLater, last_passing, passing, later-weaker, find_last, last_moment, NameRow, is_named, covers, lives_past, is_live_name, is_born_by, Follows, ◌<◌, ◌^◌, length, None, nat_cmp, unsigned_tied, has_birth, IsLastOf, value_at, is_placed, all-mid, split_at, found_key, later_at, none_last, is_last, not_true, Table, IsTable, rows_of, number_in, place_in}
use Rattle.ele_lists.proofs.Found.{find-same}
use Rattle.ele_names.proofs.Numbers.{named_place, one_place}

pub equal : (a b : ℕ) → (a == b) ≡ true → a ≡ b
equal a b h = grind (arith, nat_tests)

-- rows of one name are in one directory and have one name
pub same_name : (d : ℕ) (n : List ℕ) (row other : NameRow) → is_named d n row ≡ true → is_named d n other ≡ true → (row.directory ≡ other.directory) × (row.name ≡ other.name)
same_name d n row other a b = grind (arith, nat_tests, bytes_eq, equal, bytes_eq-Decides)

pub named_live : (d : ℕ) (n : List ℕ) (row : NameRow) → is_named d n row ≡ true → is_none row.death ≡ true → is_live_name d n row ≡ true
named_live d n row = grind (arith, nat_tests, bytes_eq, is_none)

pub named_dead : (d : ℕ) (n : List ℕ) (row : NameRow) → (is_named d n row ≡ true → is_none row.death ≡ false) → is_live_name d n row ≡ false
named_dead d n row = grind (arith, nat_tests, bytes_eq, is_none)

pub named_and_live : (d : ℕ) (n : List ℕ) (row : NameRow) → is_live_name d n row ≡ true → (is_named d n row ≡ true) × (is_none row.death ≡ true)
named_and_live d n row = grind (arith, nat_tests, bytes_eq, is_none, false≢true)

module _ (d : ℕ) (n : List ℕ) (rows : List NameRow) (apart : AllLater Follows rows) where
  -- the row that covers a moment is the newest by then, if it lives on
  pub covering_is_newest : (t : ℕ) (newest : Option NameRow) → newest ≡ last_passing (is_born_by d n t) rows → find (λ row. is_named d n row && covers t row) rows ≡ passing (lives_past t) newest
  covering_is_newest t newest is =
      find-same (λ row. is_named d n row && covers t row) (λ row. is_born_by d n t row && lives_past t row) rows (λ row. grind (arith, nat_tests))
      ∙ find_last (is_born_by d n t) (lives_past t) rows
      (later-weaker Follows (λ x y. is_born_by d n t x ≡ true → is_born_by d n t y ≡ true → lives_past t x ≡ false) rows
      (λ x y follows a b. grind (arith, nat_tests, same_name d n x y, follows.apart)) apart)
      ∙ ap (passing (lives_past t)) (sym is)

  -- a name whose newest row is dead is live nowhere
  live_by_newest : find (is_live_name d n) rows ≡ passing (λ row. is_none row.death) (last_passing (is_named d n) rows)
  live_by_newest =
      find-same (is_live_name d n) (λ row. is_named d n row && is_none row.death) rows (λ row. grind (arith, nat_tests))
      ∙ find_last (is_named d n) (λ row. is_none row.death) rows
      (later-weaker Follows (λ x y. is_named d n x ≡ true → is_named d n y ≡ true → is_none x.death ≡ false) rows
      (λ x y follows a b. grind (arith, nat_tests, same_name d n x y, follows.apart)) apart)

  pub dead_by_newest : (row : NameRow) → Some row ≡ last_passing (is_named d n) rows → is_some row.death ≡ true → live_target rows d n ≡ None
  dead_by_newest row newest dead = grind (arith, nat_tests, live_by_newest, newest, dead)

-- all rows are born by the greatest number of seconds
pub born_by_end : (d : ℕ) (n : List ℕ) (rows : List NameRow) → AllByRecursion (λ row. row.birth ≤ last_moment) rows → last_passing (is_born_by d n 18446744073709551615) rows ≡ last_passing (is_named d n) rows
born_by_end d n [] all = refl
born_by_end d n (row ∷ rows) all = grind (arith, nat_tests, born_by_end d n rows all.1)

-- the name of each row has a number
pub row_known : (names : List (ℕ × List ℕ)) (table : Table) → IsTable names table → (s : ℕ) (row : NameRow) → value_at table.rows.entries s ≡ Some row → number_in names row < length names
row_known names table is s row there = let c = split_at table.rows.entries s row is.rising there in all-mid (λ row. number_in names row < length names) c.before row c.behind (rw c.values at is.known)

module _ (names : List (ℕ × List ℕ)) (table : Table) (is : IsTable names table) (d : ℕ) (n : List ℕ) (t : ℕ) where
  -- no row has a name that was never given
  pub none_known : place_in names d n ≡ length names → None ≡ last_passing (is_born_by d n t) (rows_of table)
  none_known unknown = sym (none_last (is_born_by d n t) table.rows.entries is.rising (λ s row there. not_true (is_born_by d n t row) (λ passes. grind (arith, nat_tests, passes, row_known names table is s row there, named_place names d n row, unknown))))

  module _ (g : ℕ) (is_its : g ≡ place_in names d n) (inside : g < length names) where
    placed_named : (row : NameRow) (r : ℕ) → is_placed nat_cmp (number_in names row) row.birth g r ≡ (is_named d n row && (row.birth == r))
    placed_named row r = grind (arith, nat_tests, unsigned_tied, one_place names (row.directory, row.name) (d, n))

    abbrev pub has_at : ℕ → ℕ → Bool
    has_at = has_birth table.places.by_name g

    abbrev at : ℕ → Option NameRow
    at = value_at table.rows.entries

    -- a row of the name is at its birth
    stands : (s : ℕ) (row : NameRow) → at s ≡ Some row → is_named d n row ≡ true → has_at row.birth s ≡ true
    stands s row there named = grind (arith, nat_tests, placed_named)

    pub none_newest : ((r s : ℕ) → r ≤ t → s < 2 ^ 64 → has_at r s ≡ false) → None ≡ last_passing (is_born_by d n t) (rows_of table)
    none_newest none = sym (none_last (is_born_by d n t) table.rows.entries is.rising (λ s row there. not_true (is_born_by d n t row) (λ passes.
        grind (arith, nat_tests, passes, none row.birth s, found_key (λ k. k < 2 ^ 64) table.rows.entries s row is.short there, stands s row there))))

    module _ (r s : ℕ) (last : IsLastOf has_at t r s) where
      gone : at s ≡ None → ⊥
      gone none = false≢true (sym (is.placed.named.each g r s ∙ rw none refl) ∙ last.there)

      found : (row : NameRow) → at s ≡ Some row → Some row ≡ last_passing (is_born_by d n t) (rows_of table)
      found row there =
          let here = placed_named row r in
          let stood = is.placed.named.each g r s in
          sym (is_last (is_born_by d n t) table.rows.entries s row is.rising there (grind (arith, nat_tests, here, stood, there, last.there, last.up_to)) (λ s' row' there' passes.
          grind (arith, nat_tests, here, stood, there, last.there, last.last row'.birth s', passes, found_key (λ k. k < 2 ^ 64) table.rows.entries s' row' is.short there', stands s' row' there', same_name d n row row', later_at Follows table.rows.entries s s' row row' is.rising is.apart there there')))

      pub newest : at s ≡ last_passing (is_born_by d n t) (rows_of table)
      newest = grind (arith, nat_tests, last_passing, is_born_by, rows_of, gone, found)
