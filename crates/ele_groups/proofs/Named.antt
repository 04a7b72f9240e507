-- The row under a name: found, changed, or removed.
use Rattle.ele_groups.proofs.Basics.{◌≡◌, ℕ, Bool, true, false, List, [], ◌∷◌, ◌++◌, Some, None, is_some, refl, arith, find, insert_entry, list_any, AllByRecursion, keys_of, values_of, set_value, remove_entry, option_map, option_map_or, bytes_eq, nat_tests, bytes_eq-Decides, update_first, remove_first, IsDistinct, false≢true}
use Rattle.ele_groups.proofs.Words.{GroupRow, IsNamed, changed_at, is_group, new_group, row_at}

abbrev pub Entries : Type 0
Entries = List (List ℕ × GroupRow)

abbrev pub AreNamed : Entries → Type 0
AreNamed es = AllByRecursion IsNamed es

pub same_name : (a b : List ℕ) → bytes_eq a b ≡ true → a ≡ b
same_name a b = (bytes_eq-Decides a b).0

pub own_name : (a : List ℕ) → bytes_eq a a ≡ true
own_name a = (bytes_eq-Decides a a).1 refl

pub turned : (a b : List ℕ) → bytes_eq a b ≡ bytes_eq b a
turned a b = grind (arith, nat_tests, same_name a b, same_name b a, own_name)

-- a new group is under its own name
pub named_new : (name : List ℕ) → IsNamed (name, new_group name)
named_new name = λ n. turned name n

module _ (name : List ℕ) where
  pub found : (es : Entries) → AreNamed es → find (is_group name) (values_of es) ≡ row_at es name
  found [] named = refl
  found (e ∷ es) named = grind (arith, nat_tests, named.0 name, found es named.1)

  pub any_found : (es : Entries) → AreNamed es → list_any (is_group name) (values_of es) ≡ is_some (row_at es name)
  any_found [] named = refl
  any_found (e ∷ es) named = grind (arith, nat_tests, named.0 name, any_found es named.1)

  pub removed_rows : (es : Entries) → AreNamed es → values_of (remove_entry (bytes_eq name) es) ≡ remove_first (is_group name) (values_of es)
  removed_rows [] named = refl
  removed_rows (e ∷ es) named = grind (arith, nat_tests, named.0 name, removed_rows es named.1)

  pub named_without : (es : Entries) → AreNamed es → AreNamed (remove_entry (bytes_eq name) es)
  named_without [] named = tt
  named_without (e ∷ es) named = grind (arith, nat_tests, named, named_without es named.1)

  -- a new name is added after the others
  pub pushed : (row : GroupRow) (es : Entries) → row_at es name ≡ None → insert_entry bytes_eq es name row ≡ es ++ (name, row) ∷ []
  pushed row [] free = refl
  pushed row (e ∷ es) free = grind (arith, nat_tests, pushed row es)

  module _ (f : GroupRow → GroupRow) where
    -- a write of the row with f done to it
    pub written : (es : Entries) (v : GroupRow) → row_at es name ≡ Some v → set_value (bytes_eq name) es (f v) ≡ changed_at name f es
    written [] v there = refl
    written (e ∷ es) v there = grind (arith, nat_tests, written es v)

    pub unwritten : (es : Entries) → row_at es name ≡ None → es ≡ changed_at name f es
    unwritten [] there = refl
    unwritten (e ∷ es) there = grind (arith, nat_tests, unwritten es)

    pub changed_rows : (es : Entries) → AreNamed es → values_of (changed_at name f es) ≡ update_first (is_group name) f (values_of es)
    changed_rows [] named = refl
    changed_rows (e ∷ es) named = grind (arith, nat_tests, named.0 name, changed_rows es named.1)

    pub changed_keys : (es : Entries) → keys_of (changed_at name f es) ≡ keys_of es
    changed_keys [] = refl
    changed_keys (e ∷ es) = grind (arith, nat_tests, changed_keys es)

    pub named_changed : ((n : List ℕ) (row : GroupRow) → is_group n (f row) ≡ is_group n row) → (es : Entries) → AreNamed es → AreNamed (changed_at name f es)
    named_changed same [] named = tt
    named_changed same (e ∷ es) named = grind (arith, nat_tests, named, same, named_changed same es named.1)

    -- there f is done to the row
    pub changed_here : (es : Entries) → row_at (changed_at name f es) name ≡ option_map f (row_at es name)
    changed_here [] = refl
    changed_here (e ∷ es) = grind (arith, nat_tests, changed_here es)

    -- and elsewhere nothing
    pub changed_elsewhere : (es : Entries) (n : List ℕ) → bytes_eq name n ≡ false → row_at (changed_at name f es) n ≡ row_at es n
    changed_elsewhere [] n apart = refl
    changed_elsewhere (e ∷ es) n apart = grind (arith, nat_tests, same_name, turned, changed_elsewhere es n apart)

    -- a test of the rows that sees no change
    pub changed_same : (p : GroupRow → Bool) → ((row : GroupRow) → p (f row) ≡ p row) → (es : Entries) (n : List ℕ) → option_map_or p (row_at (changed_at name f es) n) false ≡ option_map_or p (row_at es n) false
    changed_same p same es n = grind (arith, nat_tests, option_map_or, option_map, same_name name n, changed_here es, changed_elsewhere es n)

module _ (p : GroupRow → Bool) where
  -- some row passes
  pub any_value : (es : Entries) (n : List ℕ) → option_map_or p (row_at es n) false ≡ true → list_any p (values_of es) ≡ true
  any_value [] n h = absurd (false≢true h)
  any_value (e ∷ es) n h = grind (arith, nat_tests, any_value es n)

  no_later : (n : List ℕ) (es : Entries) → AllByRecursion (λ k. bytes_eq n k ≡ false) (keys_of es) → row_at es n ≡ None
  no_later n [] none = refl
  no_later n (e ∷ es) none = grind (arith, nat_tests, no_later n es none.1)

  -- or none does
  pub no_value : (es : Entries) → IsDistinct bytes_eq (keys_of es) → ((n : List ℕ) → option_map_or p (row_at es n) false ≡ false) → AllByRecursion (λ row. p row ≡ false) (values_of es)
  unfolding IsDistinct
  no_value [] apart none = tt
  no_value (e ∷ es) apart none = (rw (own_name e.0) at (none e.0), no_value es apart.1 (λ n. grind (arith, nat_tests, none n, same_name n e.0, no_later e.0 es apart.0)))

  pub none_any : (rows : List GroupRow) → AllByRecursion (λ row. p row ≡ false) rows → list_any p rows ≡ false
  none_any [] all = refl
  none_any (row ∷ rows) all = rw all.0 (none_any rows all.1)
