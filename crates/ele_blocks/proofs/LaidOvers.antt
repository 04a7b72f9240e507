-- The item at each place of a list after new items replaced part of it.
use Rattle.ele_blocks.proofs.Words.{drop-append-add, drop_all, take_all, append-nil, [], append_assoc, arith, cond, drop, drop-drop, drop-map, is_between, laid_over, length, length-append, length-drop, length-map, length-take-le, List, map, map-append, nat_tests, set, set_split, slice_get, take, take-map, take_at, ℕ, ◌++◌, ◌+◌, ◌-◌, ◌<◌, ◌∷◌, ◌≡◌, ◌≤◌, slice_get-get_or, slice_get_past, get_or_append_left, get_or-append_right, get_or-take, get_or-drop, length-take}

module _ {X : Type 0} where
  pub slice_get-take : (d : X) (n k : ℕ) (xs : List X) → k < n → slice_get (take n xs) k ≡ slice_get xs k
  slice_get-take d n k xs lt = grind (arith, nat_tests, slice_get-get_or (take n xs) k d, slice_get-get_or xs k d, slice_get_past, get_or-take n xs k d, length-take)

  module _ (first : ℕ) (new old : List X) (within : first ≤ length old) where
    abbrev back : List X
    back = drop (first + length new) old

    front : length (take first old) ≡ first
    front = length-take-le first old within

    pub length-laid_over : length (laid_over first new old) ≡ first + length new + (length old - (first + length new))
    length-laid_over = omega (arith, length-append (take first old) (new ++ back), length-append new back, length-drop (first + length new) old, front)

    -- the new items are at their places, and the old ones in all others
    pub laid_at : (d : X) (k : ℕ) → slice_get (laid_over first new old) k ≡ cond (is_between first (first + length new) k) (slice_get new (k - first)) (slice_get old k)
    laid_at d k = grind (arith, nat_tests, front, length-laid_over, slice_get_past, slice_get-get_or (laid_over first new old) k d, slice_get-get_or new (k - first) d, slice_get-get_or old k d, get_or_append_left (take first old) (new ++ back) d k, get_or-append_right (take first old) (new ++ back) first k d, get_or_append_left new back d (k - first), get_or-append_right new back (length new) (k - first) d, get_or-take first old k d, get_or-drop (first + length new) old (k - first - length new) d)

    -- one item after the new ones
    pub laid_more : (n : ℕ) (y : X) → n ≡ first + length new → laid_over n (y ∷ []) (laid_over first new old) ≡ laid_over first (new ++ y ∷ []) old
    laid_more n y e = grind (arith, e, front, append_assoc, take_at (take first old ++ new) back n, drop-append-add (take first old ++ new) back 1, drop-drop 1 (first + length new) old, length-append)

pub laid_over-map : {X Y : Type 0} (g : X → Y) (first : ℕ) (new old : List X) → map g (laid_over first new old) ≡ laid_over first (map g new) (map g old)
laid_over-map g first new old = grind (arith, map-append, take-map, drop-map, length-map)

-- one item
pub laid_set : {X : Type 0} (xs : List X) (at : ℕ) (y : X) → at < length xs → set xs at y ≡ laid_over at (y ∷ []) xs
laid_set xs at y lt = grind (arith, set_split xs at y lt)

-- the new items alone
pub laid_alone : {X : Type 0} (new : List X) → take (length new) (laid_over 0 new []) ≡ new
laid_alone new = grind (arith, take_all, append-nil, drop_all)
