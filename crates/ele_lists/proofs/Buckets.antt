-- Buckets with rising ids, each with rows tagged by its id, seen as one flat list: finds, filters and changes of one bucket's rows are those of the flat list.
use Rattle.ele_lists.proofs.Basics.{AllByRecursion, AllLater, Bool, List, Some, [], ap, append-nil, arith, eqb, false, filter, filter-append, find, find-append, flat_map, insert_before, nat_tests, option_and_then, option_map_or, refl, remove_first, true, update_first, ℕ, ◌++◌, ◌<◌, ◌∙◌, ◌∷◌, ◌≡◌}
use Rattle.ele_lists.proofs.Alls.{all-flat_map}
use Rattle.ele_lists.proofs.Cuts.{find-skip, update_first-skip, update_first-front, remove_first-skip, remove_first-front, insert_before-skip, insert_before-front}
use Rattle.ele_lists.proofs.Edits.{all-found, all-weaker, found_passes, not_found}
use Rattle.ele_lists.proofs.Filters.{filter-all, filter-none}

-- a change of a flat list that goes past rows of lesser tags, and leaves rows of greater ones
pub record IsLocal {X : Type 0} (tag : X → ℕ) (k : ℕ) (E : List X → List X) : Type 0 where
  pub past : (xs ys : List X) → AllByRecursion (λ x. tag x < k) xs → E (xs ++ ys) ≡ xs ++ E ys
  pub short : (xs ys : List X) → AllByRecursion (λ x. k < tag x) ys → E (xs ++ ys) ≡ E xs ++ ys

module _ {X : Type 0} (tag : X → ℕ) (k : ℕ) where
  -- a test that only rows of this tag pass
  module _ (p : X → Bool) (own : (x : X) → p x ≡ true → tag x ≡ k) where
    pub lesser_fail : (xs : List X) → AllByRecursion (λ x. tag x < k) xs → AllByRecursion (λ x. p x ≡ false) xs
    lesser_fail xs all = all-weaker (λ x. tag x < k) (λ x. p x ≡ false) xs (λ x lt. grind (arith, own x)) all

    pub greater_fail : (xs : List X) → AllByRecursion (λ x. k < tag x) xs → AllByRecursion (λ x. p x ≡ false) xs
    greater_fail xs all = all-weaker (λ x. k < tag x) (λ x. p x ≡ false) xs (λ x lt. grind (arith, own x)) all

    pub local-update_first : (f : X → X) → IsLocal tag k (update_first p f)
    local-update_first f = record { past = λ xs ys all. update_first-skip p f xs ys (lesser_fail xs all); short = λ xs ys all. update_first-front p f xs ys (greater_fail ys all) }

    pub local-remove_first : IsLocal tag k (remove_first p)
    local-remove_first = record { past = λ xs ys all. remove_first-skip p xs ys (lesser_fail xs all); short = λ xs ys all. remove_first-front p xs ys (greater_fail ys all) }

  -- a row is inserted before the first that passes: none of a lesser tag does, and each of a greater one
  pub local-insert_before : (r : X → Bool) (y : X) → ((x : X) → tag x < k → r x ≡ false) → ((x : X) → k < tag x → r x ≡ true) → IsLocal tag k (insert_before r y)
  local-insert_before r y before behind = grind (arith, nat_tests, insert_before-skip, all-weaker, insert_before-front)

  -- one after another
  pub local-after : (E F : List X → List X) → IsLocal tag k E → IsLocal tag k F → IsLocal tag k (λ xs. E (F xs))
  local-after E F e f = record { past = λ xs ys all. ap E (f.past xs ys all) ∙ e.past xs (F ys) all; short = λ xs ys all. ap E (f.short xs ys all) ∙ e.short (F xs) ys all }

module _ {B X : Type 0} (id : B → ℕ) (rows : B → List X) (tag : X → ℕ) (tagged : (b : B) → AllByRecursion (λ x. tag x ≡ id b) (rows b)) (k : ℕ) where
  abbrev pub is_bucket : B → Bool
  is_bucket b = eqb (id b) k

  -- the tags of a bucket of a lesser, and of buckets of greater ids
  lesser : (b : B) → id b < k → AllByRecursion (λ x. tag x < k) (rows b)
  lesser b lt = all-weaker (λ x. tag x ≡ id b) (λ x. tag x < k) (rows b) (λ x same. omega (arith, lt, same)) (tagged b)

  greater : (bs : List B) → AllByRecursion (λ b. k < id b) bs → AllByRecursion (λ x. k < tag x) (flat_map rows bs)
  greater bs all =
      all-flat_map rows (λ x. k < tag x) (λ b. k < id b) bs (λ b lt. all-weaker (λ x. tag x ≡ id b) (λ x. k < tag x) (rows b) (λ x same. omega (arith, lt, same)) (tagged b)) all

  behind : (b : B) (bs : List B) → id b ≡ k → AllByRecursion (λ c. id b < id c) bs → AllByRecursion (λ c. k < id c) bs
  behind b bs same all = all-weaker (λ c. id b < id c) (λ c. k < id c) bs (λ c lt. omega (arith, lt, same)) all

  -- a local change of the flat list is that change of the bucket's rows
  pub bucket_changes : (E : List X → List X) → IsLocal tag k E → (c : B → B) (bs : List B) (b : B) → AllLater (λ x y. id x < id y) bs → find is_bucket bs ≡ Some b → rows (c b) ≡ E (rows b) → E (flat_map rows bs) ≡ flat_map rows (update_first is_bucket c bs)
  bucket_changes E local c [] b rise found changed = absurd cc
  bucket_changes E local c (a ∷ bs) b rise found changed = grind (arith, nat_tests, greater, behind, lesser, all-found, found_passes, bucket_changes E local c bs b)

  -- what only rows of the tag pass is found in the bucket
  pub find-buckets : (p : X → Bool) → ((x : X) → p x ≡ true → tag x ≡ k) → (bs : List B) → AllLater (λ x y. id x < id y) bs → find p (flat_map rows bs) ≡ option_and_then (λ b. find p (rows b)) (find is_bucket bs)
  find-buckets p own [] rise = refl
  find-buckets p own (a ∷ bs) rise = grind (arith, nat_tests, find-append, flat_map, find-skip, not_found, greater_fail, greater, behind, all-weaker, find-buckets p own bs)

  -- the rows of the tag are the bucket's
  pub filter-buckets : (bs : List B) → AllLater (λ x y. id x < id y) bs → filter (λ x. eqb (tag x) k) (flat_map rows bs) ≡ option_map_or rows (find is_bucket bs) []
  filter-buckets [] rise = refl
  filter-buckets (a ∷ bs) rise = grind (arith, nat_tests, eqb, all-weaker, flat_map, filter-append, filter-all, filter-none, greater, behind, append-nil, filter-buckets bs)
