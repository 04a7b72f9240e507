-- A row at the end of the others.
use Rattle.ele_names.proofs.Words.{◌≡◌, ℕ, false, ◌+◌, ◌≤◌, ◌<◌, ◌^◌, cond, List, [], ◌∷◌, ◌++◌, length, Some, None, Option, refl, sym, ap, ◌∙◌, arith, AllByRecursion, IsStrictlySortedBy, option_map_or, nat_cmp, is_at, insert_entry, keys_of, values_of, nat_tests, map-append, value_at, is_placed, nat_cmp_total, lookup-insert_entry, sorted-insert_entry, all-push, all-weaker, later-push, pushed, not_yet, Directory, File, last_moment, Target, NameRow, LiveNames, Places, Table, AreCounted, AreNumbered, IsKept, IsTable, rows_of, AreIndexed, AreListed, KeepsPlaces, names_of, number_in, is_of, live_of, Follows, is_none, append-nil, Leaves, target_eq, true}
use Rattle.ele_names.proofs.Indexed.{births_same}
use Rattle.ele_names.proofs.Chained.{chained_same}
use Rattle.ele_names.proofs.Live.{leaves_without, target_with, numbered_same}
use Rattle.ele_names.proofs.Apart.{row_known}

-- the places are of whatever has the same rows
pub placed_same : (names : List (ℕ × List ℕ)) (at to : ℕ → Option NameRow) (places : Places) → ((s : ℕ) → to s ≡ at s) → AreIndexed names at places → AreIndexed names to places
placed_same names at to places same placed = record {
  named = births_same at to places.by_name places.by_name placed.named (λ below. below) (λ q r s. refl) (λ q r s. ap (λ o. option_map_or (λ row. is_placed nat_cmp (number_in names row) row.birth q r) o false) (sym (same s)));
  chained = chained_same is_of at to places.of_file (λ g s. ap (λ o. option_map_or (is_of g) o false) (same s)) placed.chained;
}

-- a row that is added and removed again leaves the places as they were
pub placed_back : (names : List (ℕ × List ℕ)) (es : List (ℕ × NameRow)) (n : ℕ) (row : NameRow) → value_at es n ≡ None → (places : Places)
    → AreIndexed names (λ s. cond (is_at (nat_cmp n) s) None (cond (is_at (nat_cmp n) s) (Some row) (value_at es s))) places → AreIndexed names (value_at es) places
placed_back names es n row fresh places placed = placed_same names _ (value_at es) places (λ s. grind (arith, nat_tests, fresh)) placed

-- counts by target, from those of files and of directories
pub live_same : (old new : Places) → ((f : ℕ) → live_of new (File f) ≡ live_of old (File f)) → ((d : ℕ) → live_of new (Directory d) ≡ live_of old (Directory d)) → (t : Target) → live_of new t ≡ live_of old t
live_same old new files directories (File f) = files f
live_same old new files directories (Directory d) = directories d

-- no row
pub live_none : (places : Places) → ((f : ℕ) → live_of places (File f) ≡ 0) → ((d : ℕ) → live_of places (Directory d) ≡ 0) → (t : Target) → live_of places t ≡ 0
live_none places files directories (File f) = files f
live_none places files directories (Directory d) = directories d

pub table_new : (names : List (ℕ × List ℕ)) (t : Table) → t.rows.entries ≡ [] → AreIndexed names (λ _. None) t.places → IsTable names t
unfolding IsStrictlySortedBy
table_new names t is placed = grind (arith, nat_tests, placed_same, value_at)

-- a table over more names
module _ (old new : List (ℕ × List ℕ)) (keeps : KeepsPlaces old new) (table : Table) (is : IsTable old table) where
  pub table_over : IsTable new table
  table_over = record {
    rising = is.rising;
    short = is.short;
    born = is.born;
    apart = is.apart;
    known = all-weaker (λ row. number_in old row < length old) (λ row. number_in new row < length new) (rows_of table) (λ row inside. (keeps.each row.directory row.name inside).1) is.known;
    placed = record {
      named = record { each = λ q r s. is.placed.named.each q r s ∙ same q r s (value_at table.rows.entries s) refl; below = is.placed.named.below };
      chained = is.placed.chained;
    };
  } where
    same : (q r s : ℕ) (o : Option NameRow) → value_at table.rows.entries s ≡ o
        → option_map_or (λ row. is_placed nat_cmp (number_in old row) row.birth q r) o false ≡ option_map_or (λ row. is_placed nat_cmp (number_in new row) row.birth q r) o false
    same q r s o there = grind (arith, nat_tests, keeps.each, row_known old table is s)

module _ (names : List (ℕ × List ℕ)) (table : Table) (kept : IsTable names table) (made : ℕ) (below : AllByRecursion (λ k. k < made) (keys_of table.rows.entries)) where
  abbrev es : List (ℕ × NameRow)
  es = table.rows.entries

  pub fresh : (s : ℕ) → made ≤ s → value_at es s ≡ None
  fresh s le = not_yet s es (all-weaker (λ k. k < made) (λ k. k < s) (keys_of es) (λ k h. omega (arith, le, h)) below)

  -- with places that say the same
  pub table_same : (t : Table) → t.rows.entries ≡ es → AreIndexed names (value_at es) t.places → IsTable names t
  table_same t is placed = grind (arith, nat_tests)

  module _ (row : NameRow) where
    pub rows_pushed : values_of (insert_entry nat_cmp es made row) ≡ rows_of table ++ row ∷ []
    rows_pushed = ap values_of (pushed made row es below) ∙ map-append (λ (e : ℕ × NameRow). e.1) es ((made, row) ∷ [])

    pub table_pushed : (t : Table) → t.rows.entries ≡ insert_entry nat_cmp es made row
        → made + 1 < 2 ^ 64 → row.birth ≤ last_moment → number_in names row < length names → AllByRecursion (λ earlier. Follows earlier row) (rows_of table)
        → AreIndexed names (λ s. cond (is_at (nat_cmp made) s) (Some row) (value_at es s)) t.places
        → IsTable names t
    table_pushed t is fits born known follows placed = record {
      rising = rw is (sorted-insert_entry nat_cmp_total es made row kept.rising);
      short = all-weaker (λ k. k < made + 1) (λ k. k < 2 ^ 64) (keys_of t.rows.entries) (λ k h. omega arith) all_below;
      born = rw rows_are (all-push (λ row. row.birth ≤ last_moment) (rows_of table) row kept.born born);
      apart = rw rows_are (later-push Follows (rows_of table) row kept.apart follows);
      known = rw rows_are (all-push (λ row. number_in names row < length names) (rows_of table) row kept.known known);
      placed = placed_same names (λ s. cond (is_at (nat_cmp made) s) (Some row) (value_at es s)) (value_at t.rows.entries) t.places at placed;
    } where
      rows_are : rows_of t ≡ rows_of table ++ row ∷ []
      rows_are = ap values_of is ∙ rows_pushed

      at : (s : ℕ) → value_at t.rows.entries s ≡ cond (is_at (nat_cmp made) s) (Some row) (value_at es s)
      at s = ap (λ entries. value_at entries s) is ∙ lookup-insert_entry nat_cmp_total s es made row

      all_below : AllByRecursion (λ k. k < made + 1) (keys_of t.rows.entries)
      all_below = rw (ap keys_of is ∙ ap keys_of (pushed made row es below) ∙ map-append (λ (e : ℕ × NameRow). e.0) es ((made, row) ∷ []))
          (all-push (λ k. k < made + 1) (keys_of es) made (all-weaker (λ k. k < made) (λ k. k < made + 1) (keys_of es) (λ k h. omega arith) below) (omega arith))

module _ (table : Table) (live_names : LiveNames) (kept : IsKept table live_names) where
  -- over lives that say the same of more names
  pub kept_over : (new : LiveNames) → KeepsPlaces (names_of live_names) (names_of new) → (AreListed live_names → AreListed new)
      → ((rows : List NameRow) → AreCounted rows live_names → AreCounted rows new) → ((at : ℕ → Option NameRow) → AreNumbered at live_names → AreNumbered at new) → IsKept table new
  kept_over new keeps listed counts numbered = record {
    is_table = table_over (names_of live_names) (names_of new) keeps table kept.is_table;
    listed = listed kept.listed;
    counts = counts (rows_of table) kept.counts;
    numbered = numbered (value_at table.rows.entries) kept.numbered;
    targets = kept.targets;
  }

  module _ (made : ℕ) (below : AllByRecursion (λ k. k < made) (keys_of table.rows.entries)) where
    not_there : (s : ℕ) → made ≤ s → value_at table.rows.entries s ≡ None
    not_there = fresh (names_of live_names) table kept.is_table made below

    -- with places that say the same
    pub kept_placed : (t : Table) → t.rows.entries ≡ table.rows.entries
        → (((s : ℕ) → made ≤ s → value_at table.rows.entries s ≡ None) → AreIndexed (names_of live_names) (value_at table.rows.entries) table.places → AreIndexed (names_of live_names) (value_at table.rows.entries) t.places)
        → ((target : Target) → live_of t.places target ≡ live_of table.places target) → IsKept t live_names
    kept_placed t is placed live = let now = placed not_there kept.is_table.placed in grind (arith, nat_tests, table_same, names_of)

    module _ (row : NameRow) where
      abbrev pushed_at : ℕ → Option NameRow
      pushed_at s = cond (is_at (nat_cmp made) s) (Some row) (value_at table.rows.entries s)

      pub kept_pushed : (t : Table) (new : LiveNames) → names_of new ≡ names_of live_names → AreListed new → t.rows.entries ≡ insert_entry nat_cmp table.rows.entries made row
          → made + 1 < 2 ^ 64 → row.birth ≤ last_moment → number_in (names_of live_names) row < length (names_of live_names) → AllByRecursion (λ earlier. Follows earlier row) (rows_of table) → is_none row.death ≡ true
          → (((s : ℕ) → made ≤ s → value_at table.rows.entries s ≡ None) → AreIndexed (names_of live_names) (value_at table.rows.entries) table.places → AreIndexed (names_of live_names) pushed_at t.places)
          → ((was now : List NameRow) → Leaves row now was → AreCounted was live_names → AreCounted now new)
          → ((at : ℕ → Option NameRow) → at made ≡ None → AreNumbered at live_names → AreNumbered (λ s. cond (is_at (nat_cmp made) s) (Some row) (at s)) new)
          → ((target : Target) → live_of t.places target ≡ live_of table.places target + cond (target_eq row.target target) 1 0)
          → IsKept t new
      kept_pushed t new same listed is fits born known follows lives_on placed counts numbered counted =
          let rows_are = ap values_of is ∙ rows_pushed (names_of live_names) table kept.is_table made below row in
          let leaves : Leaves row (rows_of table ++ row ∷ []) (rows_of table) = rw append-nil at (leaves_without row (rows_of table) [] (later-push Follows (rows_of table) row kept.is_table.apart follows)) in record {
            is_table = rw same (table_pushed (names_of live_names) table kept.is_table made below row t is fits born known follows (placed not_there kept.is_table.placed));
            listed = listed;
            counts = rw rows_are (counts (rows_of table) (rows_of table ++ row ∷ []) leaves kept.counts);
            numbered = numbered_same pushed_at (value_at t.rows.entries) new new
                (λ s. ap (λ entries. value_at entries s) is ∙ lookup-insert_entry nat_cmp_total s table.rows.entries made row) (λ d n. refl) (numbered (value_at table.rows.entries) (not_there made (omega arith)) kept.numbered);
            targets = rw rows_are (λ target. target_with target row (rows_of table) (rows_of table ++ row ∷ []) leaves lives_on (live_of table.places target) _ (kept.targets target) (counted target));
          }
