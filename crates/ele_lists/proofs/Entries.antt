-- The entries of a map by rising key: one more, some of them, and two maps in which each look-up finds the same.
use Rattle.ele_lists.proofs.Basics.{AllByRecursion, Bool, CmpEqualImpliesEq, Equal, IsDistinct-from_sorted, IsTotalOrder, Less, List, Option, Ordering, Some, [], ap, arith, cond, cons_option, eq_by_cmp_equiv, filter, filter_map, insert_entry, is_at, is_eq, keys_of, lookup, lookup-none, map, none_below_head, none_past_head, refl, ◌∷◌, ◌≡◌}
use Rattle.ele_lists.proofs.Edits.{all-weaker}
use Rattle.std.specs.List.Sorted.{IsStrictlySortedBy}

module _ {K X : Type 0} where
  -- what holds of the entries, after one more
  pub all-insert_entry : (P : K × X → Type 0) (cmp : K → K → Ordering) (es : List (K × X)) (k : K) (v : X) → P (k, v) → ((e : K × X) → cmp k e.0 ≡ Equal → P (e.0, v)) → AllByRecursion P es → AllByRecursion P (insert_entry cmp es k v)
  all-insert_entry P cmp [] k v own same all = (own, tt)
  all-insert_entry P cmp (e ∷ es) k v own same all = grind (arith, all-insert_entry P cmp es)

  -- and of the keys
  all_keys-insert_entry : (P : K → Type 0) (cmp : K → K → Ordering) (es : List (K × X)) (k : K) (v : X) → P k → AllByRecursion P (keys_of es) → AllByRecursion P (keys_of (insert_entry cmp es k v))
  all_keys-insert_entry P cmp [] k v own all = (own, tt)
  all_keys-insert_entry P cmp (e ∷ es) k v own all = grind (arith, all_keys-insert_entry P cmp es)

  all_keys-filter : (P : K → Type 0) (p : K × X → Bool) (es : List (K × X)) → AllByRecursion P (keys_of es) → AllByRecursion P (keys_of (filter p es))
  all_keys-filter P p [] all = tt
  all_keys-filter P p (e ∷ es) all = grind (arith, all_keys-filter P p es)

  -- some of them rise as well
  pub sorted-filter_entries : (cmp : K → K → Ordering) (p : K × X → Bool) (es : List (K × X)) → IsStrictlySortedBy cmp (keys_of es) → IsStrictlySortedBy cmp (keys_of (filter p es))
  unfolding IsStrictlySortedBy
  sorted-filter_entries cmp p [] up = tt
  sorted-filter_entries cmp p (e ∷ es) up = grind (arith, all_keys-filter (λ k. cmp e.0 k ≡ Less) p es, sorted-filter_entries cmp p es)

module _ {K X : Type 0} {cmp : K → K → Ordering} (o : IsTotalOrder cmp) where
  pub sorted-insert_entry : (es : List (K × X)) (k : K) (v : X) → IsStrictlySortedBy cmp (keys_of es) → IsStrictlySortedBy cmp (keys_of (insert_entry cmp es k v))
  unfolding IsStrictlySortedBy
  sorted-insert_entry [] k v up = (tt, tt)
  sorted-insert_entry (e ∷ es) k v up = grind (arith, o.trans, o.antisymm e.0 k, all-weaker (λ y. cmp e.0 y ≡ Less) (λ y. cmp k y ≡ Less) (keys_of es), all_keys-insert_entry (λ y. cmp e.0 y ≡ Less) cmp es k v, sorted-insert_entry es k v)

  -- one more is found at its key, and at others what was
  pub lookup-insert_entry : (q : K) (es : List (K × X)) (k : K) (v : X) → lookup (is_at (cmp q)) (insert_entry cmp es k v) ≡ cond (is_eq (cmp k q)) (Some v) (lookup (is_at (cmp q)) es)
  lookup-insert_entry q [] k v = grind (arith, (eq_by_cmp_equiv o).symm q k)
  lookup-insert_entry q (e ∷ es) k v = grind (arith, (eq_by_cmp_equiv o).symm q k, (eq_by_cmp_equiv o).symm e.0 q, o.congr k e.0 q, o.congr k q e.0, lookup-insert_entry q es k v)

  -- they are the same, if keys that compare as equal are the same
  pub entries_same : CmpEqualImpliesEq cmp → (es fs : List (K × X)) → IsStrictlySortedBy cmp (keys_of es) → IsStrictlySortedBy cmp (keys_of fs) → ((q : K) → lookup (is_at (cmp q)) es ≡ lookup (is_at (cmp q)) fs) → es ≡ fs
  unfolding IsStrictlySortedBy
  entries_same exact [] [] up also same = refl
  entries_same exact (e ∷ es) [] up also same = grind (arith, (eq_by_cmp_equiv o).refl e.0, same e.0)
  entries_same exact [] (f ∷ fs) up also same = grind (arith, (eq_by_cmp_equiv o).refl f.0, same f.0)
  entries_same exact (e ∷ es) (f ∷ fs) up also same =
      let key : e.0 ≡ f.0 = grind (arith, exact e.0 f.0, (eq_by_cmp_equiv o).refl e.0, (eq_by_cmp_equiv o).refl f.0, o.antisymm f.0 e.0, same e.0, same f.0, lookup-none (is_at (cmp e.0)) (f ∷ fs), none_below_head o e.0 f fs also, lookup-none (is_at (cmp f.0)) (e ∷ es), none_below_head o f.0 e es up) in
      let rest : (q : K) → lookup (is_at (cmp q)) es ≡ lookup (is_at (cmp q)) fs = λ q. grind (arith, same q, lookup-none (is_at (cmp q)) es, lookup-none (is_at (cmp q)) fs, none_past_head (eq_by_cmp_equiv o) q e es (IsDistinct-from_sorted cmp (keys_of (e ∷ es)) up), none_past_head (eq_by_cmp_equiv o) q f fs (IsDistinct-from_sorted cmp (keys_of (f ∷ fs)) also)) in
      grind (arith, same e.0, (eq_by_cmp_equiv o).refl e.0, entries_same exact es fs up.1 also.1 rest)

pub filter_map-map : {X Y Z : Type 0} (g : Y → Option Z) (h : X → Y) (xs : List X) → filter_map g (map h xs) ≡ filter_map (λ x. g (h x)) xs
filter_map-map g h [] = refl
filter_map-map g h (x ∷ xs) = ap (cons_option (g (h x))) (filter_map-map g h xs)
