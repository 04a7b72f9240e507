-- Lists in order: what keeps them so, and that their keys determine them.
use Rattle.std.proofs.Common.{◌≡◌, ℕ, false, cond, ◌&&◌, List, [], ◌∷◌, Some, None, refl, sym, ◌∙◌, arith, fold, filter, take_while, slice_get}
use Rattle.std.specs.List.{AllByRecursion}
use Rattle.std.specs.List.Sorted.{IsStrictlySortedBy}
use Rattle.std.specs.declared.cmp.Ordering.TheVariants.{Less}
use Rattle.std.specs.Option.{option_and_then}
use Rattle.std.specs.BTreeSet.{insert_key}
use Rattle.std.proofs.lemmas.Map.Lookups.{btree_set_from_contains}
use Rattle.std.proofs.lemmas.List.Kept.{IsStrictlySortedBy-filter}
use Rattle.std.proofs.lemmas.List.Sums.{take_while-cons}
use Rattle.std.proofs.lemmas.Bool.Decides.{nat_tests}
use Rattle.ele_due.specs.declared.key.Key.{Key}
use Rattle.ele_due.specs.Key.{key_cmp}
use Rattle.ele_due.specs.Queue.{is_ripe_by}
use Rattle.ele_due.specs.HasKey.{has_key}
use Rattle.ele_due.specs.InOrder.{in_order}
use Rattle.ele_due.specs.Queue.{IsInOrder}
use Rattle.ele_due.proofs.Keys.{key_total, key_exact, less-ripe}
use Rattle.ele_due.proofs.Members.{has_key-in_order, has_key-filter}

-- a weaker fact holds of all
all-weaker : (P Q : Key → Type 0) (keys : List Key) → ((k : Key) → P k → Q k) → AllByRecursion P keys → AllByRecursion Q keys
all-weaker P Q [] weaker all = tt
all-weaker P Q (x ∷ xs) weaker all = (weaker x all.0, all-weaker P Q xs weaker all.1)

all-insert_key : (P : Key → Type 0) (key : Key) (keys : List Key) → P key → AllByRecursion P keys → AllByRecursion P (insert_key key_cmp keys key)
all-insert_key P key [] one all = (one, tt)
all-insert_key P key (x ∷ xs) one all = grind (arith, all-insert_key P key xs one all.1)

-- a key inserted keeps the order
pub IsInOrder-insert_key : (key : Key) (keys : List Key) → IsInOrder keys → IsInOrder (insert_key key_cmp keys key)
unfolding IsStrictlySortedBy
IsInOrder-insert_key key [] up = (tt, tt)
IsInOrder-insert_key key (x ∷ xs) up =
    grind (arith, key_total.antisymm x key, all-insert_key (λ y. key_cmp x y ≡ Less) key xs, IsInOrder-insert_key key xs up.1, λ (e : key_cmp key x ≡ Less). all-weaker (λ y. key_cmp x y ≡ Less) (λ y. key_cmp key y ≡ Less) xs (λ y h. key_total.trans key x y e h) up.0)

IsInOrder-fold : (keys sorted : List Key) → IsInOrder sorted → IsInOrder (fold (insert_key key_cmp) sorted keys)
IsInOrder-fold [] sorted up = up
IsInOrder-fold (k ∷ ks) sorted up = IsInOrder-fold ks (insert_key key_cmp sorted k) (IsInOrder-insert_key k sorted up)

pub IsInOrder-in_order : (keys : List Key) → IsInOrder (in_order keys)
unfolding IsStrictlySortedBy
IsInOrder-in_order keys = IsInOrder-fold keys [] tt

-- lists in order that have the same keys are one
pub same_keys : (xs ys : List Key) → IsInOrder xs → IsInOrder ys → ((k : Key) → has_key k xs ≡ has_key k ys) → xs ≡ ys
same_keys xs ys s t same = btree_set_from_contains key_total (record { keys = xs }) (record { keys = ys }) s t (λ k. same k) key_exact

-- a list in order is the keys that it has, in order
pub only_in_order : (queue keys : List Key) → IsInOrder queue → ((k : Key) → has_key k queue ≡ has_key k keys) → queue ≡ in_order keys
only_in_order queue keys up same =
    same_keys queue (in_order keys) up (IsInOrder-in_order keys) (λ k. same k ∙ sym (has_key-in_order k keys))

-- no key is ripe by the moment if all are ripe later
none_ripe : (moment : ℕ) (keys : List Key) → AllByRecursion (λ k. is_ripe_by moment k ≡ false) keys → filter (is_ripe_by moment) keys ≡ []
none_ripe moment [] all = refl
none_ripe moment (k ∷ ks) all = rw all.0 (none_ripe moment ks all.1)

still_unripe : (moment : ℕ) (x y : Key) → is_ripe_by moment x ≡ false → key_cmp x y ≡ Less → is_ripe_by moment y ≡ false
still_unripe moment x y late below = grind (arith, nat_tests, less-ripe x y below)

-- after the first key that is not ripe, none is
unripe_after : (moment : ℕ) (x : Key) (xs : List Key) → IsInOrder (x ∷ xs) → is_ripe_by moment x ≡ false → filter (is_ripe_by moment) xs ≡ []
unfolding IsStrictlySortedBy
unripe_after moment x xs up late =
    none_ripe moment xs (all-weaker (λ y. key_cmp x y ≡ Less) (λ y. is_ripe_by moment y ≡ false) xs (λ y. still_unripe moment x y late) up.0)

-- in a list in order, the ripe keys are first
pub ripe_in_front : (moment : ℕ) (keys : List Key) → IsInOrder keys → take_while (is_ripe_by moment) keys ≡ filter (is_ripe_by moment) keys
unfolding IsStrictlySortedBy
ripe_in_front moment [] up = refl
ripe_in_front moment (x ∷ xs) up = grind (arith, take_while-cons (is_ripe_by moment) x xs, ripe_in_front moment xs up.1, unripe_after moment x xs up)

-- the ripe keys of a list in order are whatever list has just them, in order
pub ripe_in_order : (moment : ℕ) (queue keys : List Key) → IsInOrder queue → ((k : Key) → has_key k keys ≡ (is_ripe_by moment k && has_key k queue)) → filter (is_ripe_by moment) queue ≡ in_order keys
ripe_in_order moment queue keys up same =
    only_in_order (filter (is_ripe_by moment) queue) keys (IsStrictlySortedBy-filter key_cmp (is_ripe_by moment) queue up)
    (λ k. has_key-filter k (is_ripe_by moment) queue ∙ sym (same k))

-- the first of the ripe keys is the first of all, if it is ripe
pub first_ripe : (moment : ℕ) (keys : List Key) → IsInOrder keys → slice_get (filter (is_ripe_by moment) keys) 0 ≡ option_and_then (λ k. cond (is_ripe_by moment k) (Some k) None) (slice_get keys 0)
first_ripe moment [] up = refl
first_ripe moment (x ∷ xs) up = grind (arith, unripe_after moment x xs up)
