-- Rows in their order, made into groups one by one.
use Rattle.ele_lists.proofs.Alls.{later-around}
use Rattle.ele_lists.proofs.Taken.{cut-at}
use Rattle.std.proofs.Common.{drop}
use Rattle.ele_groups.proofs.Basics.{◌≡◌, ℕ, ◌==◌, Bool, false, cond, ◌&&◌, ◌||◌, ◌<◌, List, [], ◌∷◌, ◌++◌, Some, refl, arith, insert_entry, list_any, AllByRecursion, IsDistinct, get_or, keys_of, length, map-append, nat_tests, subst, take, values_of, bytes_eq, ◌+◌, all-push, list_any-append}
use Rattle.ele_groups.proofs.Words.{AreKept, GroupRow, IsNamed, Memberships, has, is_group, row_at}
use Rattle.ele_groups.proofs.Kept.{unnamed}
use Rattle.ele_groups.proofs.Named.{Entries, pushed, same_name, turned}
use Rattle.ele_lists.specs.Lists.{AllLater}

none_any : {X : Type 0} (p : X → Bool) (xs : List X) → AllByRecursion (λ x. p x ≡ false) xs → list_any p xs ≡ false
none_any p [] none = refl
none_any p (x ∷ xs) none = rw none.0 (none_any p xs none.1)

-- if no two are the same, none before a place is the same as the one at it
pub none_before : {X : Type 0} (same : X → X → Bool) (xs : List X) (place : ℕ) (x : X) → AllLater (λ earlier later. same earlier later ≡ false) xs → place < length xs → get_or xs place x ≡ x → list_any (λ y. same y x) (take place xs) ≡ false
none_before same xs place x apart within is =
    none_any (λ y. same y x) (take place xs) (later-around (λ earlier later. same earlier later ≡ false) (take place xs) x (drop (place + 1) xs)
    (subst (λ ys. AllLater (λ earlier later. same earlier later ≡ false) ys) (cut-at xs place x x within is) apart)).0

-- one more of the files gets the name
pub come_more : (file : ℕ) (name : List ℕ) (files : List ℕ) (first mid new : Memberships)
    → ((q : ℕ) (n : List ℕ) → has mid q n ≡ (has first q n || (bytes_eq name n && list_any (λ f. f == q) files)))
    → ((q : ℕ) (n : List ℕ) → has new q n ≡ (has mid q n || (file == q && bytes_eq name n)))
    → (q : ℕ) (n : List ℕ) → has new q n ≡ (has first q n || (bytes_eq name n && list_any (λ f. f == q) (files ++ file ∷ [])))
come_more file name files first mid new come changed q n = grind (arith, nat_tests, come q n, changed q n, list_any-append (λ f. f == q) files (file ∷ []))

module _ (es : Entries) (memberships : Memberships) (kept : AreKept es memberships) (row : GroupRow) (new : list_any (is_group row.name) (values_of es) ≡ false) where
  pub entered_rows : (to : Entries) → to ≡ insert_entry bytes_eq es row.name row → values_of to ≡ values_of es ++ row ∷ []
  entered_rows to is = rw (is, pushed row.name row es (unnamed es memberships kept row.name new), map-append (λ (e : List ℕ × GroupRow). e.1) es ((row.name, row) ∷ [])) refl

  -- a new group with its files
  pub kept_entered : (to : Entries) (left : Memberships) → to ≡ insert_entry bytes_eq es row.name row → IsDistinct bytes_eq (keys_of to)
      → ((n : List ℕ) → row_at to n ≡ cond (bytes_eq row.name n) (Some row) (row_at es n))
      → ((q : ℕ) (n : List ℕ) → has left q n ≡ (has memberships q n || (bytes_eq row.name n && list_any (λ file. file == q) row.members)))
      → AreKept to left
  kept_entered to left is apart at come =
      let free = unnamed es memberships kept row.name new in record {
        apart = apart;
        named = rw (is, pushed row.name row es free) (all-push IsNamed es (row.name, row) kept.named (λ n. turned row.name n));
        placed = record { each = λ q n. grind (arith, nat_tests, come q n, kept.placed.each q n, free, at n, same_name row.name n) };
      }
