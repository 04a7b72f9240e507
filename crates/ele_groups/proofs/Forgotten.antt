-- A file taken out of the groups that have it.
use Rattle.ele_groups.proofs.Basics.{nat_tests, ◌≡◌, ℕ, ◌==◌, ◌<◌, true, false, not, List, [], ◌∷◌, length, refl, ap, arith, filter, list_any, AllByRecursion, values_of, false≢true}
use Rattle.ele_groups.proofs.Words.{GroupRow, forgets, forgotten, is_member, changed_at, has_file, row_at}
use Rattle.ele_groups.proofs.Named.{Entries}

module _ (file : ℕ) where
  all_others : (xs : List ℕ) → list_any (λ member. member == file) xs ≡ false → filter (λ member. not (member == file)) xs ≡ xs
  all_others [] none = refl
  all_others (x ∷ xs) none = grind (arith, nat_tests, not, all_others xs)

  none_left : (xs : List ℕ) → list_any (λ member. member == file) (filter (λ member. not (member == file)) xs) ≡ false
  none_left [] = refl
  none_left (x ∷ xs) = grind (arith, nat_tests, none_left xs)

  -- what no group has is forgotten
  pub none_forgotten : (rows : List GroupRow) → AllByRecursion (λ row. is_member file row ≡ false) rows → forgotten file rows ≡ rows
  none_forgotten [] none = refl
  none_forgotten (row ∷ rows) none = grind (arith, nat_tests, all_others, none_forgotten rows)

  forgets_again : (row : GroupRow) → forgets file (forgets file row) ≡ forgets file row
  forgets_again row = ap (λ (l : List ℕ). record row { members = l }) (all_others (filter (λ member. not (member == file)) row.members) (none_left row.members))

  module _ (name : List ℕ) where
    -- one group forgets it first
    pub forgotten_first : (es : Entries) → forgotten file (values_of (changed_at name (forgets file) es)) ≡ forgotten file (values_of es)
    forgotten_first [] = refl
    forgotten_first (e ∷ es) = grind (arith, nat_tests, forgets_again, forgotten_first es)

    -- and then fewer have it
    pub fewer_have : (es : Entries) → has_file file (row_at es name) ≡ true → length (filter (is_member file) (values_of (changed_at name (forgets file) es))) < length (filter (is_member file) (values_of es))
    fewer_have [] here = absurd (false≢true here)
    fewer_have (e ∷ es) here = grind (arith, nat_tests, none_left, fewer_have es)
