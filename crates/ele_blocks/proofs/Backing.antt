-- How many slots of leaves name a block, as leaves are added and removed.
use Rattle.ele_blocks.proofs.Words.{[], ap, arith, backing, Counted, drop, ids_of, leaf_at, List, nat_tests, None, Option, order, place_at, refl, Sets, Slot, slots_in, Some, Store, suc, sym, take, times, unwrap_or, value_of, zero, ℕ, ⊎_elim, ◌+◌, ◌<◌, ◌∙◌, ◌∷◌, ◌≡◌, ◌≤◌, ◌-◌}
use Rattle.ele_blocks.proofs.Trades.{times-split, times-ids}

abbrev pub Leaves : Type 0
Leaves = List (Option (Counted (List Slot)))

abbrev pub weight : Option (Counted (List Slot)) → ℕ → ℕ
weight place id = times id (ids_of (unwrap_or (value_of place) []))

unfolds : (s : Leaves) (id : ℕ) → backing s id ≡ weight (place_at s 0) id + backing (drop 1 s) id
unfolds xs id = grind (arith, nat_tests)

ahead : (s : Leaves) (k : ℕ) → place_at (drop 1 s) k ≡ place_at s (suc k)
ahead xs k = grind (arith, nat_tests)

alike : (old new : Leaves) (id : ℕ) → ((k : ℕ) → place_at new k ≡ place_at old k) → backing new id ≡ backing old id
alike [] [] id h = refl
alike [] (y ∷ ys) id h = grind (arith, h 0, alike [] ys id (λ k. h (suc k)))
alike (x ∷ xs) ys id h = grind (arith, h 0, unfolds ys id, alike xs (drop 1 ys) id (λ k. ahead ys k ∙ h (suc k)))

-- one place changes
pub backing_sets : (old new : Leaves) (q : ℕ) (place : Option (Counted (List Slot))) (id : ℕ) → Sets old new q place → backing new id + weight (place_at old q) id ≡ backing old id + weight place id
backing_sets old new zero place id h = omega (arith, unfolds old id, unfolds new id, alike (drop 1 old) (drop 1 new) id (λ k. ahead new k ∙ (h.others (suc k) (λ e. omega (arith, e)) ∙ sym (ahead old k))), ap (λ (p : Option (Counted (List Slot))). weight p id) h.changed)
backing_sets old new (suc q) place id h =
    grind (arith, unfolds, h.others 0, ahead, backing_sets (drop 1 old) (drop 1 new) q place id)

-- a leaf's slots are among those
pub backing_least : (s : Leaves) (leaf id : ℕ) → weight (place_at s leaf) id ≤ backing s id
backing_least [] leaf id = omega arith
backing_least (x ∷ xs) leaf id = grind (arith, nat_tests, backing_least xs (leaf - 1) id)

-- and some leaf names what is named
pub record IsNamedBy (s : Leaves) (id : ℕ) : Type 0 where
  pub leaf : ℕ
  pub names : 0 < weight (place_at s leaf) id

pub backing_some : (s : Leaves) (id : ℕ) → 0 < backing s id → IsNamedBy s id
backing_some [] id lt = absurd (omega (arith, lt))
backing_some (x ∷ xs) id lt = ⊎_elim (λ (some : 0 < weight x id). record { leaf = 0; names = some }) (λ (none : weight x id ≤ 0). let more = backing_some xs id (omega (arith, lt, none)) in record { leaf = suc more.leaf; names = more.names }) (order 0 (weight x id))

-- a block of slots in leaves is named by one of them
pub slots_backed : (s : Store) (leaves : List ℕ) (id : ℕ) → 0 < times id (ids_of (slots_in s leaves)) → 0 < backing s.leaves id
slots_backed s [] id lt = absurd (omega (arith, lt))
slots_backed s (l ∷ ls) id lt = grind (arith, backing_least s.leaves l id, times-ids id (leaf_at s l) (slots_in s ls), slots_backed s ls id)

-- and each of them names its own there
pub slots_least : (s : Store) (leaves : List ℕ) (leaf id : ℕ) → 0 < times leaf leaves → times id (ids_of (leaf_at s leaf)) ≤ times id (ids_of (slots_in s leaves))
slots_least s [] leaf id lt = absurd (omega (arith, lt))
slots_least s (l ∷ ls) leaf id lt = grind (arith, nat_tests, times-ids id (leaf_at s l) (slots_in s ls), slots_least s ls leaf id)

-- slots go into a new leaf
pub backing_put : (now next : Leaves) (rest front back : List Slot) (n id : ℕ) → front ≡ take n rest → back ≡ drop n rest → place_at now id ≡ None → Sets now next id (Some (record { value = front; owners = 1 })) → (q : ℕ) → backing next q + times q (ids_of back) ≡ backing now q + times q (ids_of rest)
backing_put now next rest front back n id is_front is_back vacant sets q = grind (arith, backing_sets now next id (Some (record { value = front; owners = 1 })) q sets, times-split q n rest)
