-- Names that are collected one after the other, with what they mean.
use Rattle.ele_names.proofs.Words.{nat_cmp_total, nat_le, IfSome, ◌≡◌, ◌⊎◌, ℕ, ◌<◌, ◌^◌, Bool, true, false, List, [], ◌∷◌, length, map, slice_get, Some, None, Option, is_some, refl, sym, ap, ◌∙◌, arith, option_map, option_map_or, Ordering, nat_cmp, is_eq, IsTotalOrder, slice_cmp, is_at, insert_entry, list_any, lookup, false≢true, tied_itself, nat_list_cmp_total, on_total, then_total, CmpEqualImpliesEq, exact_bytes, exact_pairs, exact_unsigned, slice_get_within, passing, lookup-insert_entry, Target, target_at, last_dead, Inside, by_name, name_cmp, IsKept, rows_of, name_eq, names_of, place_in, nat_eq, option_and_then, cases_lt, nat_tests, IsLastBelow, is_member, newest_in}
use Rattle.ele_names.proofs.Apart.{covering_is_newest, born_by_end, equal, none_known}
use Rattle.ele_names.proofs.Numbers.{exact, known, any_known, at_place}

module _ {K : Type 0} (cmp : K → K → Ordering) (about : K → Option Target) where
  -- the value of a key is collected, or is among the remaining ones
  abbrev pub AreTold : (K → Bool) → List (K × Target) → Type 0
  AreTold rest entries = (k : K) → (lookup (is_at (cmp k)) entries ≡ about k) ⊎ ((lookup (is_at (cmp k)) entries ≡ None) × (rest k ≡ true))

  pub told_all : (entries : List (K × Target)) → AreTold (λ _. false) entries → (k : K) → lookup (is_at (cmp k)) entries ≡ about k
  told_all entries told k = grind (arith, told k)

  pub told_one : IsTotalOrder cmp → CmpEqualImpliesEq cmp → (rest left : K → Bool) (entries : List (K × Target)) (key : K) (target : Option Target)
      → ((k : K) → rest k ≡ true → (k ≡ key) ⊎ (left k ≡ true)) → target ≡ about key
      → AreTold rest entries → AreTold left (option_map_or (insert_entry cmp entries key) target entries)
  told_one total exact rest left entries key target parts its told k = grind (arith, nat_tests, is_eq, tied_itself, lookup, is_at, option_map_or, insert_entry, lookup-insert_entry, exact)

-- the number of the name is not above that of the next one
abbrev pub is_left : List (ℕ × List ℕ) → ℕ → Option ℕ → List ℕ → Bool
is_left names d next n = option_map_or (λ r. nat_le (place_in names d n) r) next false

-- what passes below a bound isn't above the last that does
not_above : (passes : ℕ → Bool) (bound p : ℕ) (next : Option ℕ) → IsLastBelow passes bound next → passes p ≡ true → p < bound → option_map_or (λ r. nat_le p r) next false ≡ true
not_above passes bound p x0 last there lt = grind (arith, nat_tests, last, cases_lt, nat_le, false≢true)

module _ (a : Inside) (kept : IsKept a.table a.live_names) where
  abbrev names : List (ℕ × List ℕ)
  names = names_of a.live_names

  -- a name that was never given meant nothing
  never_at : (moment d : ℕ) (n : List ℕ) → place_in names d n ≡ length names → target_at (rows_of a.table) moment d n ≡ None
  never_at moment d n unknown = ap (option_map (λ row. row.target)) (covering_is_newest d n (rows_of a.table) kept.is_table.apart moment None (none_known names a.table kept.is_table d n moment unknown))

  never_dead : (d : ℕ) (n : List ℕ) → place_in names d n ≡ length names → last_dead (rows_of a.table) d n ≡ None
  never_dead d n unknown = ap (λ o. option_map (λ row. row.target) (passing (λ row. is_some row.death) o))
      (sym (none_known names a.table kept.is_table d n 18446744073709551615 unknown ∙ born_by_end d n (rows_of a.table) kept.is_table.born))

  module _ (moment d : ℕ) where
    abbrev in_directory : ℕ → Bool
    in_directory = is_member (λ d name. nat_eq name.0 d) (slice_get names) d

    -- a name that was given is one of its directory
    listed : (n : List ℕ) → place_in names d n < length names → in_directory (place_in names d n) ≡ true
    listed n inside = grind (arith, nat_tests, at_place)

    pub list_begun : (next : Option ℕ) → next ≡ newest_in a.live_names.in_directory d → AreTold (slice_cmp nat_cmp) (target_at (rows_of a.table) moment d) (is_left names d next) []
    list_begun next is n = grind (arith, nat_tests, known names d n, not_above in_directory (2 ^ 64) (place_in names d n) next, is, kept.listed.each.newest d, listed n, kept.listed.few, never_at moment d n)

    some : (bound : ℕ) (o : Option ℕ) → IsLastBelow in_directory bound o → IfSome o (λ r. in_directory r ≡ true)
    some bound x0 last = grind (arith, nat_tests, last)

    -- the next one is of the directory
    pub list_first : (next : Option ℕ) → next ≡ newest_in a.live_names.in_directory d → IfSome next (λ r. in_directory r ≡ true)
    list_first next is = grind (arith, nat_tests, is, some (2 ^ 64) next, kept.listed.each.newest d)

    pub list_stands : (r : ℕ) → in_directory r ≡ true → None ≡ slice_get names r → ⊥
    list_stands r there none = false≢true (rw (← none) at there)

    module _ (r : ℕ) (name : ℕ × List ℕ) (is : Some name ≡ slice_get names r) (there : in_directory r ≡ true) (next : Option ℕ) (before : next ≡ option_and_then (λ o. o) (slice_get a.live_names.in_directory.older.items r)) where
      its : name.0 ≡ d
      its = equal name.0 d (rw (← is) at there)

      last : IsLastBelow in_directory r next
      last = let old = kept.listed.each.older d r there in rw (before, old.there) old.last

      pub list_second : IfSome next (λ s. in_directory s ≡ true)
      list_second = some r next last

      pub list_smaller : IfSome next (λ s. s < r)
      list_smaller = grind (arith, nat_tests, last)

      -- the name of a number is collected, or one before it
      pub list_next : (k : List ℕ) → is_left names d (Some r) k ≡ true → (k ≡ name.1) ⊎ (is_left names d next k ≡ true)
      list_next k left = grind (arith, nat_tests, its, is, not_above in_directory r (place_in names d k) next last, listed k, slice_get_within names r name, at_place names d k)

  pub dead_begun : AreTold name_cmp (λ k. last_dead (rows_of a.table) k.0 k.1) (λ k. list_any (name_eq k) names) []
  dead_begun k = grind (arith, nat_tests, known names k.0 k.1, any_known names k.0 k.1, never_dead k.0 k.1)

-- of the remaining names, a name is the next or after it
pub dead_next : (key : ℕ × List ℕ) (names : List (ℕ × List ℕ)) (k : ℕ × List ℕ) → list_any (name_eq k) (key ∷ names) ≡ true → (k ≡ key) ⊎ (list_any (name_eq k) names ≡ true)
dead_next key names k left = grind (arith, nat_tests, name_eq, list_any, exact)

pub name_total : IsTotalOrder name_cmp
name_total = then_total (on_total (λ (k : ℕ × List ℕ). k.0) nat_cmp_total) (on_total (λ (k : ℕ × List ℕ). k.1) nat_list_cmp_total)

pub name_exact : CmpEqualImpliesEq name_cmp
name_exact = exact_pairs nat_cmp (slice_cmp nat_cmp) exact_unsigned exact_bytes

-- an entry by directory and name, in its three parts
abbrev pub parted : (ℕ × List ℕ) × Target → ℕ × List ℕ × Target
parted e = (e.0.0, e.0.1, e.1)

pub parted_back : (entries : List ((ℕ × List ℕ) × Target)) → map by_name (map parted entries) ≡ entries
parted_back [] = refl
parted_back (e ∷ es) = ap (λ rest. e ∷ rest) (parted_back es)
