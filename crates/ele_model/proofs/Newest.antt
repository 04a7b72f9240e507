-- The newest row of each name, and the restorable names among those whose newest row is dead.
use Rattle.ele_model.proofs.Basics.{nat_tests, arith, ◌≡◌, ℕ, ◌+◌, ◌<◌, Bool, List, [], ◌∷◌, length, map, get_or, take, fold, Option, refl, ap, sym, subst, ◌∙◌, filter, find, is_some, unwrap_or, AllByRecursion, filter_map, keys_of}
use Rattle.ele_model.proofs.Basics.{values_of, lookup, insert_entry, is_at, option_map, nat_cmp, is_eq, IsTotalOrder, nat_cmp_total, unsigned_tied, eq_by_cmp_equiv, slice_cmp, nat_list_cmp_total, then_total, on_total, fold-append, take_more}
use Rattle.ele_model.proofs.Basics.{lookup-filter-values, IsDistinct-from_sorted, CmpEqualImpliesEq, exact_pairs, exact_unsigned, exact_bytes, lookup-map_values, keys_of-map_values, is_eq-slice_cmp, last_passing, entries_same, filter_map-map, sorted-filter_entries, all-insert_entry}
use Rattle.ele_model.proofs.Words.{is_named, last_dead, name_cmp, newest_rows, returning_name, returning, World, is_file, next_of, DeletedName, FileRow, NameRow, Target}
use Rattle.std.specs.List.Sorted.{IsStrictlySortedBy}
use Rattle.ele_model.specs.Restorable.{may_return, restorable, row_of, triple_of}
use Rattle.std.specs.Prelude.{None, Some, true, false, if◌then◌else◌}
use Rattle.std.specs.List.{cons_option}
use Rattle.ele_model.proofs.Listed.{all_sorted, inserted_found}

abbrev pub Key : Type 0
Key = ℕ × List ℕ

abbrev pub Entry : Type 0
Entry = Key × NameRow

abbrev pub key_of : NameRow → Key
key_of row = (row.directory, row.name)

abbrev more : List Entry → NameRow → List Entry
more newest row = insert_entry name_cmp newest (key_of row) row

-- ---- for src/returning.rt

pub next_is : (files : List FileRow) (file : ℕ) → unwrap_or (option_map (λ (row : FileRow). row.next) (find (is_file file) files)) 0 ≡ next_of files file
next_is files file = grind (arith, nat_tests)

-- one more row
pub newest_more : (xs : List NameRow) (i : ℕ) (x : NameRow) → i < length xs → x ≡ get_or xs i x → newest_rows (take (i + 1) xs) ≡ more (newest_rows (take i xs)) x
newest_more xs i x lt is = rw (take_more xs i x lt, ← is, fold-append more [] (take i xs) (x ∷ [])) refl

-- the restorable ones of their values
pub restorable_values : (w : World) → filter_map (returning w) (values_of (newest_rows w.names)) ≡ restorable w
unfolding restorable
restorable_values w = filter_map-map (returning w) (λ (e : Entry). e.1) (newest_rows w.names)

-- the restorable name of a row as a triple
abbrev pub returning_triple : World → NameRow → Option (ℕ × List ℕ × Target)
returning_triple w row = option_map triple_of (returning w row)

-- the rows of the triples are the restorable names
rows_of_triples : (w : World) (rows : List NameRow) → map row_of (filter_map (returning_triple w) rows) ≡ filter_map (returning w) rows
rows_of_triples w [] = refl
rows_of_triples w (row ∷ rows) = by (returning w row) (rows_of_triples w rows)
  where
    by : (is : Option DeletedName) → map row_of (filter_map (returning_triple w) rows) ≡ filter_map (returning w) rows
        → map row_of (cons_option (option_map triple_of is) (filter_map (returning_triple w) rows)) ≡ cons_option is (filter_map (returning w) rows)
    by (Some name) are = ap (λ rest. name ∷ rest) are
    by None are = are

pub restorable_of_triples : (w : World) → map row_of (filter_map (returning_triple w) (values_of (newest_rows w.names))) ≡ restorable w
restorable_of_triples w = rows_of_triples w (values_of (newest_rows w.names)) ∙ restorable_values w

-- ---- the order of names

pub name_total : IsTotalOrder name_cmp
name_total = then_total (on_total (λ (k : Key). k.0) nat_cmp_total) (on_total (λ (k : Key). k.1) nat_list_cmp_total)

name_exact : CmpEqualImpliesEq name_cmp
name_exact = exact_pairs nat_cmp (slice_cmp nat_cmp) exact_unsigned exact_bytes

-- ---- the newest rows

abbrev pub IsOwn : Entry → Type 0
IsOwn e = e.0 ≡ key_of e.1

-- each at its own name
pub newest_own : (rows : List NameRow) (newest : List Entry) → AllByRecursion IsOwn newest → AllByRecursion IsOwn (fold more newest rows)
newest_own [] newest own = own
newest_own (row ∷ rows) newest own = newest_own rows (more newest row) (all-insert_entry IsOwn name_cmp newest (key_of row) row refl (λ e alike. sym (name_exact (key_of row) e.0 alike)) own)

pub sorted_rows : (rows : List NameRow) → IsStrictlySortedBy name_cmp (keys_of (newest_rows rows))
sorted_rows rows = all_sorted name_total key_of (λ row. row) rows

-- and a name has its last row
last_same : (d : ℕ) (n : List ℕ) (rows : List NameRow) → last_passing (λ row. is_eq (name_cmp (key_of row) (d, n))) rows ≡ last_passing (is_named d n) rows
last_same d n [] = refl
last_same d n (row ∷ rows) = grind (arith, nat_tests, unsigned_tied row.directory d, is_eq-slice_cmp row.name n, last_same d n rows)

pub newest_last : (rows : List NameRow) (d : ℕ) (n : List ℕ) → lookup (is_at (name_cmp (d, n))) (newest_rows rows) ≡ last_passing (is_named d n) rows
newest_last rows d n = rw (inserted_found name_total key_of (λ row. row) (d, n) rows [], last_same d n rows) (grind (arith, nat_tests))

-- ---- those that are dead, with what they meant

abbrev pub is_dead : NameRow → Bool
is_dead row = is_some row.death

abbrev dead_of : List Entry → List Entry
dead_of newest = filter (λ (e : Entry). is_dead e.1) newest

abbrev targets : List Entry → List (Key × Target)
targets newest = map (λ (e : Entry). (e.0, e.1.target)) newest

dead_found : (rows : List NameRow) (d : ℕ) (n : List ℕ) → lookup (is_at (name_cmp (d, n))) (targets (dead_of (newest_rows rows))) ≡ last_dead rows d n
dead_found rows d n =
    lookup-map_values (λ (row : NameRow). row.target) (is_at (name_cmp (d, n))) (dead_of (newest_rows rows))
    ∙ rw (lookup-filter-values (eq_by_cmp_equiv name_total) is_dead (d, n) (newest_rows rows) (IsDistinct-from_sorted name_cmp (keys_of (newest_rows rows)) (sorted_rows rows)), inserted_found name_total key_of (λ row. row) (d, n) rows [], last_same d n rows) (grind (arith, nat_tests))

-- ---- the restorable ones

abbrev returning_entry : World → Key × Target → Option DeletedName
returning_entry w e = returning_name w (e.0.0, e.0.1, e.1)

dead_return : (w : World) (newest : List Entry) → AllByRecursion IsOwn newest → filter_map (returning_entry w) (targets (dead_of newest)) ≡ filter_map (λ (e : Entry). returning w e.1) newest
dead_return w [] own = refl
dead_return w (e ∷ newest) own = grind (arith, nat_tests, dead_return w newest own.1)

abbrev as_entry : ℕ × List ℕ × Target → Key × Target
as_entry item = ((item.0, item.1), item.2)

-- of the deleted names, each once and in order, with what each last meant, the restorable ones
pub restorable_is : (w : World) (items : List (ℕ × List ℕ × Target)) → IsStrictlySortedBy name_cmp (keys_of (map as_entry items)) → ((d : ℕ) (n : List ℕ) → lookup (is_at (name_cmp (d, n))) (map as_entry items) ≡ last_dead w.names d n)
    → filter_map (returning_name w) items ≡ restorable w
unfolding restorable
restorable_is w items up found =
    let sorted = subst (IsStrictlySortedBy name_cmp) (sym (keys_of-map_values (λ (row : NameRow). row.target) (dead_of (newest_rows w.names)))) (sorted-filter_entries name_cmp (λ (e : Entry). is_dead e.1) (newest_rows w.names) (sorted_rows w.names)) in
    sym (filter_map-map (returning_entry w) as_entry items)
    ∙ ap (filter_map (returning_entry w)) (entries_same name_total name_exact (map as_entry items) (targets (dead_of (newest_rows w.names))) up sorted (λ q. found q.0 q.1 ∙ sym (dead_found w.names q.0 q.1)))
    ∙ dead_return w (newest_rows w.names) (newest_own w.names [] tt)

-- those of them whose targets may return are the restorable ones
kept_return : (w : World) (items : List (ℕ × List ℕ × Target)) → map row_of (filter (λ (item : ℕ × List ℕ × Target). may_return w item.2) items) ≡ filter_map (returning_name w) items
kept_return w [] = refl
kept_return w (item ∷ items) = by (may_return w item.2) (kept_return w items)
  where
    kept : List (ℕ × List ℕ × Target)
    kept = filter (λ (other : ℕ × List ℕ × Target). may_return w other.2) items

    by : (may : Bool) → map row_of kept ≡ filter_map (returning_name w) items
        → map row_of (if may then item ∷ kept else kept) ≡ cons_option (if may then Some (row_of item) else None) (filter_map (returning_name w) items)
    by true are = ap (λ rest. row_of item ∷ rest) are
    by false are = are

pub restorable_kept : (w : World) (items : List (ℕ × List ℕ × Target)) → IsStrictlySortedBy name_cmp (keys_of (map as_entry items)) → ((d : ℕ) (n : List ℕ) → lookup (is_at (name_cmp (d, n))) (map as_entry items) ≡ last_dead w.names d n)
    → map row_of (filter (λ (item : ℕ × List ℕ × Target). may_return w item.2) items) ≡ restorable w
restorable_kept w items up found = kept_return w items ∙ restorable_is w items up found
