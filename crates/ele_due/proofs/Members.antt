-- Which keys a list has after a change.
use Rattle.std.proofs.Common.{◌≡◌, Bool, ◌&&◌, ◌||◌, List, [], ◌∷◌, refl, ap, sym, fold, filter, arith}
use Rattle.std.specs.declared.cmp.Ordering.TheVariants.{Less, Equal, Greater}
use Rattle.std.specs.Ordering.{match_ordering}
use Rattle.std.specs.BTreeSet.{insert_key}
use Rattle.std.proofs.lemmas.Map.Views.{any-filter_same}
use Rattle.ele_due.specs.declared.key.Key.{Key}
use Rattle.ele_due.specs.Key.{key_cmp, is_key}
use Rattle.ele_due.specs.HasKey.{has_key}
use Rattle.ele_due.specs.InOrder.{in_order}
use Rattle.ele_due.proofs.Keys.{key_exact, is_key-same}

-- the list with the key inserted has it and the others
pub has_key-insert_key : (k key : Key) (keys : List Key) → has_key k (insert_key key_cmp keys key) ≡ (is_key k key || has_key k keys)
has_key-insert_key k key [] = refl
has_key-insert_key k key (x ∷ xs) =
    elim (key_cmp key x) as (λ o. key_cmp key x ≡ o → has_key k (match_ordering o (key ∷ x ∷ xs) (x ∷ xs) (x ∷ insert_key key_cmp xs key)) ≡ (is_key k key || has_key k (x ∷ xs))) [
      | Less ↦ λ e. refl
      | Equal ↦ λ e. let same : key ≡ x = key_exact key x e in twice (is_key k key) (is_key k x) (has_key k xs) (ap (is_key k) same)
      | Greater ↦ λ e. swapped (is_key k x) (is_key k key) (has_key k xs) (has_key k (insert_key key_cmp xs key)) (has_key-insert_key k key xs)
    ] refl where
      twice : (a b c : Bool) → a ≡ b → (b || c) ≡ (a || (b || c))
      twice a b c same = grind arith

      swapped : (a b c d : Bool) → d ≡ (b || c) → (a || d) ≡ (b || (a || c))
      swapped a b c d h = grind arith

-- the keys that pass a test
pub has_key-filter : (k : Key) (test : Key → Bool) (keys : List Key) → has_key k (filter test keys) ≡ (test k && has_key k keys)
has_key-filter k test keys = any-filter_same (is_key k) test (test k) (λ j same. ap test (sym (is_key-same k j same))) keys

has_key-fold : (k : Key) (keys sorted : List Key) → has_key k (fold (insert_key key_cmp) sorted keys) ≡ (has_key k sorted || has_key k keys)
has_key-fold k [] sorted = grind arith
has_key-fold k (x ∷ xs) sorted = grind (arith, has_key-fold k xs (insert_key key_cmp sorted x), has_key-insert_key k x sorted)

-- in order, the keys are the same keys
pub has_key-in_order : (k : Key) (keys : List Key) → has_key k (in_order keys) ≡ has_key k keys
has_key-in_order k keys = has_key-fold k keys []
