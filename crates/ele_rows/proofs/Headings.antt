-- Rows and the column of their heads: what each change of a chunk makes of both, and what a search of the column finds.
use Rattle.std.proofs.lemmas.List.{get_or-map}
use Rattle.std.specs.Option.{ForSome}
use Rattle.ele_lists.proofs.Basics.{AllLater, AllWithin, Bool, IsPartitionPoint, IsPartitionedBy, List, Rises, Some, [], ap, arith, drop, false, get_or, last_of, length, length-map, map, position, refl, remove, stands_by, suc, take, true, update_last, zero, ℕ, ◌++◌, ◌<◌, ◌∷◌, ◌≡◌, ◌≤◌}
use Rattle.ele_lists.proofs.Alls.{later-map}
use Rattle.ele_lists.proofs.Ends.{last-append}
use Rattle.ele_lists.proofs.Keys.{place-there}
use Rattle.ele_rows.proofs.Basics.{Head, Sinks, ends_before}
use Rattle.ele_rows.proofs.Seams.{sinks-parted}

-- the last of a column with a head more
pub last_pushed : (hs : List Head) (h : Head) → ForSome (last_of (hs ++ h ∷ [])) (λ found. found ≡ h)
last_pushed hs h = λ found is. grind (arith, last-append hs [] h, is)

module _ {X : Type 0} (head : X → Head) where
  pub map_pushed : (xs : List X) (x : X) → map head (xs ++ x ∷ []) ≡ map head xs ++ head x ∷ []
  map_pushed [] x = refl
  map_pushed (y ∷ xs) x = ap (λ hs. head y ∷ hs) (map_pushed xs x)

  pub map_removed : (xs : List X) (i : ℕ) → map head (remove xs i) ≡ remove (map head xs) i
  map_removed [] zero = refl
  map_removed [] (suc i) = refl
  map_removed (x ∷ xs) zero = refl
  map_removed (x ∷ xs) (suc i) = ap (λ hs. head x ∷ hs) (map_removed xs i)

  -- a change of the last row that keeps its head
  pub map_changed : (f : X → X) → ((x : X) → head (f x) ≡ head x) → (xs : List X) → map head (update_last f xs) ≡ map head xs
  map_changed f keeps [] = refl
  map_changed f keeps (x ∷ []) = ap (λ h. h ∷ []) (keeps x)
  map_changed f keeps (x ∷ y ∷ xs) = ap (λ hs. head x ∷ hs) (map_changed f keeps (y ∷ xs))

  -- the last head is the last row's
  pub ends_shown : (q : Head → Bool) (end : Head) (xs : List X) → 0 < length xs → ForSome (last_of (map head xs)) (λ found. found ≡ end) → ends_before (λ x. q (head x)) xs ≡ q end
  ends_shown q end [] some is = absurd (omega arith)
  ends_shown q end (x ∷ []) some is = ap q (is (head x) refl)
  ends_shown q end (x ∷ y ∷ xs) some is = ends_shown q end (y ∷ xs) (omega arith) is

  -- the place of a head is that of the row
  position_shown : (p : Head → Bool) (xs : List X) → position p (map head xs) ≡ position (λ x. p (head x)) xs
  position_shown p [] = refl
  position_shown p (x ∷ xs) = grind (arith, position_shown p xs)

  pub dense_shown : (xs : List X) (this i : ℕ) (h : Head) → Rises (λ x. (head x).key) xs → i < length (map head xs) → ((d : Head) → h ≡ get_or (map head xs) i d) → h.key ≡ this → position (stands_by (λ x. (head x).key) this) xs ≡ Some i
  dense_shown xs this i h rises lt is same =
      rw (← position_shown (stands_by (λ (h : Head). h.key) this) xs) (place-there (λ (h : Head). h.key) (map head xs) this i h (later-map head (λ x y. x.key < y.key) xs rises) lt is same)

  module _ (q : Head → Bool) (xs : List X) where
    pub heads_parted : AllLater (Sinks (λ x. q (head x))) xs → IsPartitionedBy q (map head xs)
    heads_parted sinks = sinks-parted q (map head xs) (later-map head (Sinks q) xs sinks)

    within_shown : (P : Head → Type 0) (low high : ℕ) → high ≤ length xs → AllWithin P (map head xs) low high → AllWithin (λ x. P (head x)) xs low high
    within_shown P low high bound all = λ k d le lt. rw (get_or-map head xs k d (head d) (omega arith)) at (all k (head d) le lt)

    pub point_shown : (i : ℕ) → i ≤ length (map head xs) → IsPartitionPoint (λ h. q h ≡ true) (λ h. q h ≡ false) (map head xs) i → IsPartitionPoint (λ x. q (head x) ≡ true) (λ x. q (head x) ≡ false) xs i
    point_shown i bound point =
        let long = length-map xs head in
        (within_shown (λ h. q h ≡ true) 0 i (omega (arith, long, bound)) point.0, within_shown (λ h. q h ≡ false) i (length xs) (omega arith) (rw long at point.1))

-- what `grind` takes for the functions of src/chunk.rt
pub ruleset push_steps = (map_pushed, last_pushed, length-map)

pub ruleset remove_steps = (map_removed, length-map)

pub ruleset change_steps = (map_changed, length-map)

pub ruleset ends_steps = ends_shown
