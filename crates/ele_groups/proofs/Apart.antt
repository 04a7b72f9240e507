-- Numbers that a list has once each, after one is removed.
use Rattle.ele_groups.proofs.Basics.{◌≡◌, ℕ, ◌==◌, true, false, not, ◌&&◌, List, [], ◌∷◌, refl, arith, filter, list_any, AllByRecursion, nat_tests, remove_first, list_any-remove_first, found_passes}
use Rattle.ele_groups.proofs.Words.{AreApart}

pub is_same : (x y : ℕ) → (x == y) ≡ true → x ≡ y
is_same x y h = grind (arith, nat_tests)

pub none_equal : (k : ℕ) (xs : List ℕ) → AllByRecursion (λ y. (k == y) ≡ false) xs → list_any (λ x. x == k) xs ≡ false
none_equal k [] all = refl
none_equal k (x ∷ xs) all = grind (arith, nat_tests, none_equal k xs)

-- and once taken out, no more
pub gone : (k : ℕ) (xs : List ℕ) → AreApart xs → list_any (λ x. x == k) (remove_first (λ x. x == k) xs) ≡ false
gone k [] apart = refl
gone k (x ∷ xs) apart = grind (arith, nat_tests, is_same, none_equal, gone k xs apart.1)

pub others : (k t : ℕ) (xs : List ℕ) → (k == t) ≡ false → list_any (λ x. x == t) (remove_first (λ x. x == k) xs) ≡ list_any (λ x. x == t) xs
others k t xs apart = grind (arith, nat_tests, list_any-remove_first, is_same, found_passes)

-- the others stay
pub any_removed : (k t : ℕ) (xs : List ℕ) → AreApart xs → list_any (λ x. x == t) (remove_first (λ x. x == k) xs) ≡ (list_any (λ x. x == t) xs && not (k == t))
any_removed k t xs apart = grind (arith, nat_tests, is_same, gone, others)

kept_all : (k : ℕ) (xs : List ℕ) → AllByRecursion (λ y. (k == y) ≡ false) xs → xs ≡ filter (λ x. not (x == k)) xs
kept_all k [] all = refl
kept_all k (x ∷ xs) all = grind (arith, nat_tests, kept_all k xs)

-- one removal removes the number from the list
pub filtered : (k : ℕ) (xs : List ℕ) → AreApart xs → remove_first (λ x. x == k) xs ≡ filter (λ x. not (x == k)) xs
filtered k [] apart = refl
filtered k (x ∷ xs) apart = grind (arith, nat_tests, is_same, kept_all, filtered k xs apart.1)
