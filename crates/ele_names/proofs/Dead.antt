-- Names that are collected in any order, each once, and then sorted by their bytes.
use Rattle.ele_names.proofs.Words.{Inside, IsKept, names_of, rows_of, last_dead, tied_itself, map-append, AllByRecursion, Bool, Equal, Greater, IsDistinct, IsDistinct-head, IsDistinct-tail, IsStrictlySortedBy, Less, List, None, Option, Ordering, Some, Target, [], ap, arith, by_name, false, is_at, is_eq, is_some, keys_of, length, list_any, lookup, map, name_cmp, name_eq, nat_tests, option_map_or, refl, sym, true, true≢false, ℕ, ◌++◌, ◌+◌, ◌<◌, ◌∙◌, ◌∷◌, ◌≡◌}
use Rattle.ele_names.proofs.Numbers.{exact, itself}
use Rattle.ele_names.proofs.Told.{dead_begun, name_exact, name_total}
use Rattle.indexmap.proofs.MapLemmas.{lookup_permutation}
use Rattle.std.proofs.lemmas.Cmp.{eq_by_cmp_equiv}
use Rattle.std.proofs.lemmas.List.{get_or-map, length-map}
use Rattle.std.proofs.lemmas.List.Sorted.{IsPermutation-map}
use Rattle.std.proofs.lemmas.Map.Keys.{IsDistinct-IsPermutation, IsDistinct-from_apart, IsDistinct-push, apart_from_distinct, sorted_from_all_adjacent}
use Rattle.std.proofs.lemmas.Map.Made.{is_some-lookup}
use Rattle.std.proofs.Math.ListN.{get_or}
use Rattle.std.specs.List.Sorted.{IsPermutation, IsSortedBy}
use Rattle.std.specs.Ordering.{eq_by_cmp, is_lt, ordering_reverse}

abbrev Key : Type 0
Key = ℕ × List ℕ

abbrev Item : Type 0
Item = ℕ × List ℕ × Target

abbrev pub key_of : Item → Key
key_of item = (by_name item).0

abbrev pub items_keys : List Item → List Key
items_keys items = keys_of (map by_name items)

pub keys_are : (items : List Item) → items_keys items ≡ map key_of items
keys_are [] = refl
keys_are (x ∷ xs) = ap (λ rest. key_of x ∷ rest) (keys_are xs)

below : (o r : Ordering) → r ≡ ordering_reverse o → is_lt r ≡ false → is_eq o ≡ false → o ≡ Less
below Less r turned above apart = refl
below Equal r turned above apart = absurd (true≢false apart)
below Greater r turned above apart = absurd (true≢false (rw turned at above))

-- sorted, and each name once: the names rise
pub in_order : (items : List Item) → IsSortedBy (λ x y. is_lt (name_cmp (key_of x) (key_of y))) items → IsDistinct (eq_by_cmp name_cmp) (items_keys items) → IsStrictlySortedBy name_cmp (items_keys items)
in_order items up apart = rw (keys_are items) (sorted_from_all_adjacent name_total (map key_of items) (0, []) (λ k inside. next items k up (rw (keys_are items) at apart) inside))
  where
    next : (items : List Item) (k : ℕ) → IsSortedBy (λ x y. is_lt (name_cmp (key_of x) (key_of y))) items → IsDistinct (eq_by_cmp name_cmp) (map key_of items) → k + 1 < length (map key_of items)
        → name_cmp (get_or (map key_of items) k (0, [])) (get_or (map key_of items) (k + 1) (0, [])) ≡ Less
    next [] k up apart inside = absurd (omega arith)
    next (x ∷ xs) k up apart inside =
        let long = length-map (x ∷ xs) key_of in
        let one = get_or-map key_of (x ∷ xs) k x (0, []) (omega (arith, long)) in
        let other = get_or-map key_of (x ∷ xs) (k + 1) x (0, []) (omega (arith, long)) in
        let differ = apart_from_distinct (eq_by_cmp name_cmp) (map key_of (x ∷ xs)) k (k + 1) (0, []) apart (omega arith) inside in
        let p = get_or (map key_of (x ∷ xs)) k (0, []) in
        let q = get_or (map key_of (x ∷ xs)) (k + 1) (0, []) in
        let risen : is_lt (name_cmp q p) ≡ false = rw (one, other) (up k x (omega arith) (omega (arith, long))) in
        below (name_cmp p q) (name_cmp q p) (name_total.antisymm q p) risen differ

-- names that differ still do
pub still : (was now : List Item) → IsPermutation was now → IsDistinct (eq_by_cmp name_cmp) (items_keys was) → IsDistinct (eq_by_cmp name_cmp) (items_keys now)
still was now moves apart = rw (keys_are now) (IsDistinct-IsPermutation (eq_by_cmp name_cmp) (eq_by_cmp_equiv name_total).symm (map key_of was) (map key_of now) (IsPermutation-map key_of was now moves) (rw (keys_are was) at apart))

-- and what is looked up is the same
pub found_sorted : (was now : List Item) → IsPermutation was now → IsDistinct (eq_by_cmp name_cmp) (items_keys was)
    → (k : Key) → lookup (is_at (name_cmp k)) (map by_name now) ≡ lookup (is_at (name_cmp k)) (map by_name was)
found_sorted was now moves apart k = lookup_permutation (eq_by_cmp_equiv name_total) (map by_name was) (map by_name now) (IsPermutation-map by_name was now moves) (still was now moves apart) (is_at (name_cmp k)) (λ x y at. (eq_by_cmp_equiv name_total).congr k x y at)

-- one more entry after the others
lookup_past : (test : Key → Bool) (entries : List (Key × Target)) (e : Key × Target) → test e.0 ≡ false → lookup test (entries ++ e ∷ []) ≡ lookup test entries
lookup_past test [] e fails = grind (arith, lookup)
lookup_past test (f ∷ fs) e fails = grind (arith, lookup, lookup_past test fs e)

lookup_new : (test : Key → Bool) (entries : List (Key × Target)) (e : Key × Target) → test e.0 ≡ true → lookup test entries ≡ None → lookup test (entries ++ e ∷ []) ≡ Some e.1
lookup_new test [] e passes none = grind (arith, lookup)
lookup_new test (f ∷ fs) e passes none = grind (arith, lookup, lookup_new test fs e)

none_is : (key : Key) (left : List Key) → AllByRecursion (λ y. name_eq key y ≡ false) left → list_any (name_eq key) left ≡ false
none_is key [] all = refl
none_is key (y ∷ ys) all = rw all.0 (none_is key ys all.1)

at_itself : (k : Key) → is_at (name_cmp k) k ≡ true
at_itself k = ap is_eq (tied_itself name_total k)

not_at : (k key : Key) → name_eq k key ≡ false → is_at (name_cmp k) key ≡ false
not_at k key differ = by (name_cmp k key) refl
  where
    by : (o : Ordering) → name_cmp k key ≡ o → is_eq o ≡ false
    by Less is = refl
    by Greater is = refl
    by Equal is = absurd (true≢false (sym (rw (← name_exact k key is) (itself k)) ∙ differ))

module _ (about : Key → Option Target) where
  -- of the remaining names nothing is collected, and of every other name what there is
  pub record AreSettled (rest : List Key) (items : List Item) : Type 0 where
    pub differ : IsDistinct name_eq rest
    pub apart : IsDistinct (eq_by_cmp name_cmp) (items_keys items)
    pub ahead : (k : Key) → list_any (name_eq k) rest ≡ true → lookup (is_at (name_cmp k)) (map by_name items) ≡ None
    pub behind : (k : Key) → list_any (name_eq k) rest ≡ false → lookup (is_at (name_cmp k)) (map by_name items) ≡ about k

  module _ (key : Key) (left : List Key) (items : List Item) (was : AreSettled (key ∷ left) items) where
    its_none : lookup (is_at (name_cmp key)) (map by_name items) ≡ None
    its_none = was.ahead key (rw (itself key) refl)

    alone : list_any (name_eq key) left ≡ false
    alone = none_is key left (IsDistinct-head name_eq key left was.differ)

    -- a remaining name is another one
    other : (k : Key) → list_any (name_eq k) left ≡ true → name_eq k key ≡ false
    other k there = by (name_eq k key) refl
      where
        by : (b : Bool) → name_eq k key ≡ b → b ≡ false
        by false is = refl
        by true is = absurd (true≢false (sym there ∙ rw (exact k key is) alone))

    still_ahead : (k : Key) → list_any (name_eq k) left ≡ true → lookup (is_at (name_cmp k)) (map by_name items) ≡ None
    still_ahead k there = was.ahead k (grind (arith, nat_tests, there))

    passed : None ≡ about key → AreSettled left items
    passed none = record {
      differ = IsDistinct-tail name_eq key left was.differ;
      apart = was.apart;
      ahead = still_ahead;
      behind = λ k gone. by k gone (name_eq k key) refl;
    }
      where
        by : (k : Key) → list_any (name_eq k) left ≡ false → (b : Bool) → name_eq k key ≡ b → lookup (is_at (name_cmp k)) (map by_name items) ≡ about k
        by k gone true is = rw (exact k key is) (its_none ∙ none)
        by k gone false is = was.behind k (rw is gone)

    entry : Target → Key × Target
    entry target = (key, target)

    added : (target : Target) → map by_name (items ++ (key.0, key.1, target) ∷ []) ≡ map by_name items ++ (key, target) ∷ []
    added target = map-append by_name items ((key.0, key.1, target) ∷ [])

    told : (target : Target) → Some target ≡ about key → AreSettled left (items ++ (key.0, key.1, target) ∷ [])
    told target some = record {
      differ = IsDistinct-tail name_eq key left was.differ;
      apart = rw (added target, map-append (λ (e : Key × Target). e.0) (map by_name items) ((key, target) ∷ [])) (IsDistinct-push (eq_by_cmp_equiv name_total) (items_keys items) key was.apart (sym (is_some-lookup (is_at (name_cmp key)) (map by_name items)) ∙ ap is_some its_none));
      ahead = λ k there. rw (added target) (lookup_past (is_at (name_cmp k)) (map by_name items) (key, target) (not_at k key (other k there)) ∙ still_ahead k there);
      behind = λ k gone. rw (added target) (by k gone (name_eq k key) refl);
    }
      where
        by : (k : Key) → list_any (name_eq k) left ≡ false → (b : Bool) → name_eq k key ≡ b → lookup (is_at (name_cmp k)) (map by_name items ++ (key, target) ∷ []) ≡ about k
        by k gone true is = rw (exact k key is) (lookup_new (is_at (name_cmp key)) (map by_name items) (key, target) (at_itself key) its_none ∙ some)
        by k gone false is = lookup_past (is_at (name_cmp k)) (map by_name items) (key, target) (not_at k key is) ∙ was.behind k (rw is gone)

    pub settled_next : (target : Option Target) → target ≡ about key → AreSettled left (option_map_or (λ target. items ++ (key.0, key.1, target) ∷ []) target items)
    settled_next None is = passed is
    settled_next (Some target) is = told target is

-- at first no name is collected
module _ (a : Inside) (kept : IsKept a.table a.live_names) where
  pub settled_begun : IsDistinct name_eq (names_of a.live_names) → AreSettled (λ k. last_dead (rows_of a.table) k.0 k.1) (names_of a.live_names) []
  settled_begun differ = record {
    differ = differ;
    apart = IsDistinct-from_apart (eq_by_cmp name_cmp) [] (λ i j d before inside. absurd (omega (arith, inside)));
    ahead = λ k there. refl;
    behind = λ k gone. grind (arith, nat_tests, gone, dead_begun a kept k);
  }
