-- The groups of one file, with one more or less.
use Rattle.ele_groups.proofs.Basics.{◌≡◌, ℕ, ◌==◌, true, false, ◌&&◌, not, List, [], ◌∷◌, ◌++◌, Some, None, refl, arith, filter, list_any, bytes_eq, slice_get, nat_tests, list_any-append}
use Rattle.ele_groups.proofs.Words.{Membership, Memberships, has, memberships_of}
use Rattle.ele_groups.proofs.Named.{own_name, same_name}

-- one name deleted
pub any_without : (name n : List ℕ) (these : List Membership) → list_any (λ other. bytes_eq other.name n) (filter (λ other. not (bytes_eq other.name name)) these) ≡ (list_any (λ other. bytes_eq other.name n) these && not (bytes_eq name n))
any_without name n [] = refl
any_without name n (x ∷ xs) = grind (arith, nat_tests, same_name x.name name, same_name x.name n, same_name name n, own_name n, any_without name n xs)

-- the first one is one of them
pub first_has : (memberships : Memberships) (file : ℕ) (first : Membership) → slice_get (memberships_of memberships file) 0 ≡ Some first → has memberships file first.name ≡ true
first_has memberships file first is = by (memberships_of memberships file) is where
  by : (these : List Membership) → slice_get these 0 ≡ Some first → list_any (λ other. bytes_eq other.name first.name) these ≡ true
  by [] is = absurd cc
  by (x ∷ xs) is = grind (arith, nat_tests, own_name first.name)

-- there is none
pub none_has : (memberships : Memberships) (file : ℕ) (name : List ℕ) → slice_get (memberships_of memberships file) 0 ≡ None → has memberships file name ≡ false
none_has memberships file name is = by (memberships_of memberships file) is where
  by : (these : List Membership) → slice_get these 0 ≡ None → list_any (λ other. bytes_eq other.name name) these ≡ false
  by [] is = refl
  by (x ∷ xs) is = absurd cc

-- one more of the files loses the name
pub left_more : (file : ℕ) (name : List ℕ) (files : List ℕ) (first mid new : Memberships)
    → ((q : ℕ) (n : List ℕ) → has mid q n ≡ (has first q n && not (bytes_eq name n && list_any (λ f. f == q) files)))
    → ((q : ℕ) (n : List ℕ) → has new q n ≡ (has mid q n && not (file == q && bytes_eq name n)))
    → (q : ℕ) (n : List ℕ) → has new q n ≡ (has first q n && not (bytes_eq name n && list_any (λ f. f == q) (files ++ file ∷ [])))
left_more file name files first mid new left changed q n = grind (arith, nat_tests, left q n, changed q n, list_any-append (λ f. f == q) files (file ∷ []))
