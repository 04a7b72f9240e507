-- The list of restorable names is in order and has a name exactly if it is restorable.
use Rattle.ele_model.proofs.Basics.{nat_tests, arith, ◌≡◌, ℕ, ◌==◌, ◌&&◌, Bool, true, false, List, [], ◌∷◌, map, Option, Some, None, refl, ap, sym, subst, cons_option, ◌∙◌, find, AllByRecursion, filter_map, keys_of, lookup, is_at, option_map, passing, bytes_eq, bytes_eq-Decides, unsigned_tied, is_eq-slice_cmp, Less, eq_by_cmp_equiv, IsDistinct-from_sorted}
use Rattle.ele_model.proofs.Words.{World, may_return, name_cmp, newest_rows, returning}
use Rattle.ele_headline.proofs.Words.{DeletedName, NameRow, Target}
use Rattle.std.specs.List.Sorted.{IsStrictlySortedBy}
use Rattle.std.proofs.lemmas.Map.{lookup-none}
use Rattle.std.proofs.lemmas.Map.Entries.{none_past_head}
use Rattle.ele_model.specs.Restorable.{restorable}
use Rattle.ele_headline.specs.RestorableLists.{RestorableLists, is_dead_name}
use Rattle.ele_model.proofs.Newest.{Key, Entry, IsOwn, key_of, is_dead, name_total, newest_last, newest_own, sorted_rows}

-- ---- the list

abbrev name_of : DeletedName → Key
name_of dead = (dead.directory, dead.name)

same_name : (d e : ℕ) (n m : List ℕ) → is_at (name_cmp (d, n)) (e, m) ≡ ((e == d) && bytes_eq m n)
same_name d e n m = grind (arith, nat_tests, unsigned_tied d e, is_eq-slice_cmp n m, bytes_eq-Decides)

module _ (w : World) where
  abbrev listed : List Entry → List DeletedName
  listed es = filter_map (λ (e : Entry). returning w e.1) es

  all_listed : (P : Key → Type 0) (es : List Entry) → AllByRecursion IsOwn es → AllByRecursion P (keys_of es) → AllByRecursion P (map name_of (listed es))
  all_listed P [] own all = tt
  all_listed P (e ∷ es) own all = grind (arith, nat_tests, all_listed P es)

  named : (e : Entry) (dead : DeletedName) → returning w e.1 ≡ Some dead → name_of dead ≡ key_of e.1
  named e dead is = grind (arith, nat_tests)

  extend : (found : Option DeletedName) (names : List DeletedName) → ((dead : DeletedName) → found ≡ Some dead → AllByRecursion (λ k. name_cmp (name_of dead) k ≡ Less) (map name_of names)) → IsStrictlySortedBy name_cmp (map name_of names) → IsStrictlySortedBy name_cmp (map name_of (cons_option found names))
  unfolding IsStrictlySortedBy
  extend None names below up = up
  extend (Some dead) names below up = (below dead refl, up)

  in_order : (es : List Entry) → AllByRecursion IsOwn es → IsStrictlySortedBy name_cmp (keys_of es) → IsStrictlySortedBy name_cmp (map name_of (listed es))
  unfolding IsStrictlySortedBy
  in_order [] own up = tt
  in_order (e ∷ es) own up = extend (returning w e.1) (listed es)
      (λ dead is. subst (λ j. AllByRecursion (λ k. name_cmp j k ≡ Less) (map name_of (listed es))) (own.0 ∙ sym (named e dead is)) (all_listed (λ k. name_cmp e.0 k ≡ Less) es own.1 up.0))
      (in_order es own.1 up.1)

  module _ (d : ℕ) (n : List ℕ) where
    abbrev told : Option NameRow → Option Target
    told found = passing (may_return w) (option_map (λ (row : NameRow). row.target) (passing is_dead found))

    abbrev finds : List Entry → Option Target
    finds es = option_map (λ (dead : DeletedName). dead.target) (find (is_dead_name d n) (listed es))

    rest : (e : Entry) (es : List Entry) → IsStrictlySortedBy name_cmp (keys_of (e ∷ es)) → is_at (name_cmp (d, n)) e.0 ≡ true → lookup (is_at (name_cmp (d, n))) es ≡ None
    rest e es up is = lookup-none (is_at (name_cmp (d, n))) es (none_past_head (eq_by_cmp_equiv name_total) (d, n) e es (IsDistinct-from_sorted name_cmp (keys_of (e ∷ es)) up) is)

    own_name : (e : Entry) → IsOwn e → is_at (name_cmp (d, n)) e.0 ≡ ((e.1.directory == d) && bytes_eq e.1.name n)
    own_name e own = ap (is_at (name_cmp (d, n))) own ∙ same_name d e.1.directory n e.1.name

    one : (e : Entry) (es : List Entry) (b : Bool) → is_at (name_cmp (d, n)) e.0 ≡ b → IsOwn e → IsStrictlySortedBy name_cmp (keys_of (e ∷ es)) → finds es ≡ told (lookup (is_at (name_cmp (d, n))) es) → finds (e ∷ es) ≡ told (lookup (is_at (name_cmp (d, n))) (e ∷ es))
    one e es true is own up tail = grind (arith, nat_tests, is, rest e es up is, own_name e own)
    one e es false is own up tail = grind (arith, nat_tests, is, own_name e own)

    found : (es : List Entry) → AllByRecursion IsOwn es → IsStrictlySortedBy name_cmp (keys_of es) → finds es ≡ told (lookup (is_at (name_cmp (d, n))) es)
    unfolding IsStrictlySortedBy
    found [] own up = refl
    found (e ∷ es) own up = one e es (is_at (name_cmp (d, n)) e.0) refl own.0 up (found es own.1 up.1)

pub restorable_lists : RestorableLists
unfolding restorable
restorable_lists w =
    let own = newest_own w.names [] tt in
    record { in_order = in_order w (newest_rows w.names) own (sorted_rows w.names); each = λ d n. found w d n (newest_rows w.names) own (sorted_rows w.names) ∙ ap (told w d n) (newest_last w.names d n) }
