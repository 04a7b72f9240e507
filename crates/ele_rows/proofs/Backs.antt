-- The element that has so many after it, in chunks.
use Rattle.ele_lists.proofs.Basics.{List, Some, [], append-nil, append_assoc, arith, length, reverse, slice_get, suc, take, zero, ℕ, ◌++◌, ◌+◌, ◌-◌, ◌<◌, ◌∷◌, ◌≡◌, ◌≤◌}
use Rattle.ele_lists.proofs.Backs.{back-far, back-near}
use Rattle.ele_rows.proofs.Basics.{Piece, flat}

-- the last chunk holds it, or else it is so many fewer from the end of those before
module _ {X : Type 0} (cs : List (Piece X)) (i : ℕ) (here : Piece X) (is : slice_get cs i ≡ Some here) where
  flat-more : flat (take (i + 1) cs) ≡ flat (take i cs) ++ here.items
  flat-more = by cs i is where
    by : (ds : List (Piece X)) (k : ℕ) → slice_get ds k ≡ Some here → flat (take (k + 1) ds) ≡ flat (take k ds) ++ here.items
    by [] k found = grind arith
    by (d ∷ ds) zero found = grind (arith, append-nil d.items)
    by (d ∷ ds) (suc k) found = grind (arith, by ds k found, append_assoc d.items (flat (take k ds)) here.items)

  pub chunk-near : (n : ℕ) → n < length here.items → slice_get (reverse (flat (take (i + 1) cs))) n ≡ slice_get here.items (length here.items - 1 - n)
  chunk-near n near = rw flat-more (back-near (flat (take i cs)) here.items n near)

  pub chunk-far : (n : ℕ) → length here.items ≤ n → slice_get (reverse (flat (take (i + 1) cs))) n ≡ slice_get (reverse (flat (take i cs))) (n - length here.items)
  chunk-far n far = rw flat-more (back-far (flat (take i cs)) here.items n far)
