-- The numbers of names.
use Rattle.ele_names.proofs.Words.{◌≡◌, ℕ, ◌≤◌, ◌<◌, true, false, slice_get_within, suc, zero, IsDistinct, IsDistinct-head, IsDistinct-tail, all-at, not, ◌==◌, nat_lt, List, [], ◌∷◌, ◌++◌, length, slice_get, position, is_some, Option, Some, None, length_append, sym, ap, ◌∙◌, ◌⊎◌, arith, list_any, HashMap, get, keys, true≢false, cases_lt, keys_of, values_of, lookup, set_value_at, cond, nat_tests, position_or_len_push, prefix_len-le-length, bytes_eq-Decides, some_index, NameRow, Target, is_named, Live, name_eq, place_in, number_in, KeepsPlaces}

pub exact : (k q : ℕ × List ℕ) → name_eq k q ≡ true → k ≡ q
exact k q h = grind (arith, nat_tests, bytes_eq-Decides k.1 q.1)

pub itself : (k : ℕ × List ℕ) → name_eq k k ≡ true
itself k = grind (arith, nat_tests, bytes_eq-Decides)

-- two names have one number if they are one
pub one_place : (names : List (ℕ × List ℕ)) (k q : ℕ × List ℕ) → place_in names q.0 q.1 < length names → (place_in names k.0 k.1 == place_in names q.0 q.1) ≡ name_eq k q
one_place [] k q inside = absurd (omega (arith, inside))
one_place (x ∷ xs) k q inside = grind (arith, nat_tests, exact q x, exact k x, exact k q, itself, one_place xs k q)

-- rows of one name have its number
pub named_place : (names : List (ℕ × List ℕ)) (d : ℕ) (n : List ℕ) (row : NameRow) → is_named d n row ≡ true → number_in names row ≡ place_in names d n
named_place names d n row named = ap (λ (k : ℕ × List ℕ). place_in names k.0 k.1) (exact (row.directory, row.name) (d, n) named)

-- a name is at the place of its number
pub at_place : (names : List (ℕ × List ℕ)) (d : ℕ) (n : List ℕ) → place_in names d n < length names → slice_get names (place_in names d n) ≡ Some (d, n)
at_place [] d n inside = absurd (omega (arith, inside))
at_place (x ∷ xs) d n inside = grind (arith, nat_tests, exact (d, n) x, at_place xs d n)

-- and if names differ, no other one is there
there_is : (names : List (ℕ × List ℕ)) (i : ℕ) (k : ℕ × List ℕ) → IsDistinct name_eq names → slice_get names i ≡ Some k → place_in names k.0 k.1 ≡ i
there_is [] i k apart is = absurd cc
there_is (x ∷ xs) zero k apart is = grind (arith, nat_tests, itself k)
there_is (x ∷ xs) (suc i) k apart is =
    grind (arith, nat_tests, exact k x, itself k, all-at (λ y. name_eq x y ≡ false) xs i k is (IsDistinct-head name_eq x xs apart), there_is xs i k (IsDistinct-tail name_eq x xs apart) is)

key_there : {X : Type 0} (es : List ((ℕ × List ℕ) × X)) (i : ℕ) (e : (ℕ × List ℕ) × X) → slice_get es i ≡ Some e → slice_get (keys_of es) i ≡ Some e.0
key_there [] i e is = absurd cc
key_there (f ∷ es) zero e is = grind (arith, nat_tests)
key_there (f ∷ es) (suc i) e is = key_there es i e is

pub has_number : {X : Type 0} (es : List ((ℕ × List ℕ) × X)) (i : ℕ) (e : (ℕ × List ℕ) × X) (k : ℕ × List ℕ) → IsDistinct name_eq (keys_of es) → slice_get es i ≡ Some e → name_eq e.0 k ≡ true
    → (place_in (keys_of es) k.0 k.1 ≡ i) × (i < length (keys_of es))
has_number es i e k apart is same =
    let there = key_there es i e is in
    (ap (λ (q : ℕ × List ℕ). place_in (keys_of es) q.0 q.1) (sym (exact e.0 k same)) ∙ there_is (keys_of es) i e.0 apart there, slice_get_within (keys_of es) i e.0 there)

-- and is one of them
pub any_known : (names : List (ℕ × List ℕ)) (d : ℕ) (n : List ℕ) → place_in names d n < length names → list_any (name_eq (d, n)) names ≡ true
any_known [] d n inside = absurd (omega (arith, inside))
any_known (x ∷ xs) d n inside = grind (arith, nat_tests, any_known xs d n)

-- a name has a number, or none
pub known : (names : List (ℕ × List ℕ)) (d : ℕ) (n : List ℕ) → (place_in names d n < length names) ⊎ (place_in names d n ≡ length names)
known names d n = grind (arith, nat_tests, cases_lt, place_in, prefix_len-le-length, not, name_eq)

pub place_within : (names : List (ℕ × List ℕ)) (d : ℕ) (n : List ℕ) → place_in names d n ≤ length names
place_within names d n = grind (arith, nat_tests, place_in, prefix_len-le-length, not, name_eq)

module _ (names : List (ℕ × List ℕ)) where
  -- one more name after the others leaves them their numbers
  pub keeps_pushed : (k : ℕ × List ℕ) → KeepsPlaces names (names ++ k ∷ [])
  keeps_pushed k = grind (arith, nat_tests, place_in, position_or_len_push, name_eq, length_append)

  -- the new name's number is the next
  pub pushed_place : (k : ℕ × List ℕ) → place_in names k.0 k.1 ≡ length names → place_in (names ++ k ∷ []) k.0 k.1 ≡ length names
  pushed_place k new = grind (arith, nat_tests, position_or_len_push (name_eq k) names k, itself k, new)

  -- a name that isn't found has no number
  pub unnumbered : (d : ℕ) (n : List ℕ) → None ≡ position (name_eq (d, n)) names → place_in names d n ≡ length names
  unnumbered d n none = grind (arith, nat_tests, none, place_in, prefix_len-le-length, not, name_eq, nat_lt)

module _ {S : Type 0} (by_name : HashMap (ℕ × List ℕ) (Option (Live Target)) S) (d : ℕ) (n : List ℕ) where
  among : is_some (position (name_eq (d, n)) (keys by_name)) ≡ is_some (get name_eq by_name (d, n))
  among = some_index (name_eq (d, n)) by_name.entries

  -- what has a number is there
  pub present : place_in (keys by_name) d n < length (keys by_name) → is_some (get name_eq by_name (d, n)) ≡ true
  present inside = grind (arith, nat_tests, among, place_in, keys, is_some, nat_lt)

  -- and what has none isn't
  pub missing : place_in (keys by_name) d n ≡ length (keys by_name) → get name_eq by_name (d, n) ≡ None
  missing end = grind (arith, nat_tests, get, name_eq, among, place_in, keys, is_some, nat_lt, true≢false)

-- the value of a name is at the place of its number
module _ {X : Type 0} (k : ℕ × List ℕ) where
  pub valued : (es : List ((ℕ × List ℕ) × X)) → place_in (keys_of es) k.0 k.1 < length (keys_of es) → slice_get (values_of es) (place_in (keys_of es) k.0 k.1) ≡ lookup (name_eq k) es
  valued [] inside = absurd (omega (arith, inside))
  valued (e ∷ es) inside = grind (arith, nat_tests, valued es)

  -- and a value set there is set for that name alone
  pub value_set : (es : List ((ℕ × List ℕ) × X)) (w : X) → place_in (keys_of es) k.0 k.1 < length (keys_of es) → (q : ℕ × List ℕ)
      → lookup (name_eq q) (set_value_at es (place_in (keys_of es) k.0 k.1) w) ≡ cond (name_eq k q) (Some w) (lookup (name_eq q) es)
  value_set [] w inside q = absurd (omega (arith, inside))
  value_set (e ∷ es) w inside q = grind (arith, nat_tests, exact k e.0, exact q e.0, exact k q, itself q, value_set es w)
