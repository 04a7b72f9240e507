-- The listing of a directory at a moment, by what each name meant then.
use Rattle.ele_model.proofs.Basics.{◌≡◌, ℕ, Bool, true, ◌&&◌, List, [], ◌∷◌, fold, None, refl, filter, find, arith, AllByRecursion, keys_of, lookup, insert_entry}
use Rattle.ele_model.proofs.Basics.{is_at, option_map, option_or, is_eq, last_passing, Ordering, IsTotalOrder, nat_cmp, slice_cmp, nat_list_cmp_total, nat_tests, exact_bytes, is_eq-slice_cmp, bytes_eq-Decides, AllLater, all-weaker, not_found, entries_same, sorted-insert_entry, lookup-insert_entry}
use Rattle.ele_model.proofs.Words.{covers, is_named, target_at, stood_in, AreApart, NameRow, Target}
use Rattle.std.specs.List.Sorted.{IsStrictlySortedBy}
use Rattle.ele_model.specs.Told.{listing}

-- ---- rows put into a map one after another

module _ {K V R : Type 0} {cmp : K → K → Ordering} (o : IsTotalOrder cmp) (key_of : R → K) (value_of : R → V) where
  abbrev pub inserted : List (K × V) → List R → List (K × V)
  inserted entries rows = fold (λ es row. insert_entry cmp es (key_of row) (value_of row)) entries rows

  -- the entries are in order
  pub inserted_sorted : (rows : List R) (entries : List (K × V)) → IsStrictlySortedBy cmp (keys_of entries) → IsStrictlySortedBy cmp (keys_of (inserted entries rows))
  inserted_sorted [] entries up = up
  inserted_sorted (row ∷ rows) entries up = inserted_sorted rows (insert_entry cmp entries (key_of row) (value_of row)) (sorted-insert_entry o entries (key_of row) (value_of row) up)

  pub all_sorted : (rows : List R) → IsStrictlySortedBy cmp (keys_of (inserted [] rows))
  unfolding IsStrictlySortedBy
  all_sorted rows = inserted_sorted rows [] tt

  -- and a key has its last row
  pub inserted_found : (q : K) (rows : List R) (entries : List (K × V)) → lookup (is_at (cmp q)) (inserted entries rows) ≡ option_or (option_map value_of (last_passing (λ row. is_eq (cmp (key_of row) q)) rows)) (lookup (is_at (cmp q)) entries)
  inserted_found q [] entries = refl
  inserted_found q (row ∷ rows) entries = grind (arith, inserted_found q rows (insert_entry cmp entries (key_of row) (value_of row)), lookup-insert_entry o q entries (key_of row) (value_of row))

-- ---- the listing

module _ (d t : ℕ) where
  -- a row of the name that covers the moment
  abbrev stood : List ℕ → NameRow → Bool
  stood n row = is_named d n row && covers t row

  -- after such a row there is no other
  alone : (n : List ℕ) (row : NameRow) (rows : List NameRow) → stood n row ≡ true → AllByRecursion (AreApart row) rows → find (stood n) rows ≡ None
  alone n row rows is apart = grind (arith, nat_tests, not_found, all-weaker, bytes_eq-Decides)

  -- so the last one then is the one
  listed_last : (n : List ℕ) (rows : List NameRow) → AllLater AreApart rows → option_map (λ (row : NameRow). row.target) (last_passing (λ row. is_eq (slice_cmp nat_cmp row.name n)) (filter (stood_in d t) rows)) ≡ target_at rows t d n
  listed_last n [] apart = refl
  listed_last n (row ∷ rows) apart = grind (arith, nat_tests, listed_last n rows, alone n, is_eq-slice_cmp)

-- entries in order with what each name meant are the listing
pub listing_is : (rows : List NameRow) (d t : ℕ) (items : List (List ℕ × Target)) → AllLater AreApart rows → IsStrictlySortedBy (slice_cmp nat_cmp) (keys_of items)
    → ((n : List ℕ) → lookup (is_at (slice_cmp nat_cmp n)) items ≡ target_at rows t d n) → items ≡ listing rows d t
unfolding listing
listing_is rows d t items apart up found =
    let stood = filter (stood_in d t) rows in
    entries_same nat_list_cmp_total exact_bytes items (inserted nat_list_cmp_total (λ (row : NameRow). row.name) (λ row. row.target) [] stood) up (all_sorted nat_list_cmp_total (λ (row : NameRow). row.name) (λ row. row.target) stood)
    (λ n. grind (arith, found n, listed_last d t n rows apart, inserted_found nat_list_cmp_total (λ (row : NameRow). row.name) (λ row. row.target) n stood []))
