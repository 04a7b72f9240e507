-- Chunks as one list: a place in them, a search's seam, and a row more, less or changed (for the functions of src/seam.rt).
use Rattle.ele_lists.proofs.Basics.{AllByRecursion, AllLater, AllWithin, Bool, IsPartitionPoint, IsPartitionedBy, List, Rises, Some, [], ap, append-nil, append_assoc, arith, drop, drop_all, false, find, get_or, get_or-set_same, stands_by, last_of, length, length-set, length-take, ltb, nat_tests, option_and_then, option_map_or, position, position-Some, refl, remove, set, slice_get, slice_get-get_or, slice_get_past, slice_get_read, slice_get_within, suc, sym, take, take-append-drop, take_all, true, update_last, zero, ℕ, ◌++◌, ◌-◌, ◌<◌, ◌∙◌, ◌∷◌, ◌≡◌, ◌≢◌, ◌≤◌}
use Rattle.ele_rows.proofs.Basics.{AreFilled, IsPlaceOf, Piece, IsSeam, Sinks, before_place, behind_place, ends_before, flat, last_room, room_of, rows_at}
use Rattle.ele_lists.proofs.Alls.{all-append, all-left, all-right, all-got, later-around, later-left, later-right, later-place}
use Rattle.ele_lists.proofs.Cuts.{find-at, remove_first-at}
use Rattle.ele_lists.proofs.Edits.{all-weaker, length-remove_first}
use Rattle.ele_lists.proofs.Ends.{last-append, last-take, last_at, all-last, later-across, update_last-append}

-- what holds at the places within holds of the part
module _ {X : Type 0} (P : X → Type 0) where
  pub all-take : (xs : List X) (i : ℕ) → AllWithin P xs 0 i → AllByRecursion P (take i xs)
  all-take [] i all = grind (arith, take_all {A = X} i [])
  all-take (x ∷ xs) zero all = tt
  all-take (x ∷ xs) (suc i) all = (all 0 x (omega arith) (omega arith), all-take xs i (λ k d low high. all (suc k) d (omega arith) (omega arith)))

  pub all-drop : (xs : List X) (i : ℕ) → AllWithin P xs i (length xs) → AllByRecursion P (drop i xs)
  all-drop [] zero all = tt
  all-drop [] (suc i) all = tt
  all-drop (x ∷ xs) zero all = (all 0 x (omega arith) (omega arith), all-drop xs zero (λ k d low high. all (suc k) d (omega arith) (omega arith)))
  all-drop (x ∷ xs) (suc i) all = all-drop xs i (λ k d low high. all (suc k) d (omega arith) (omega arith))

module _ {X : Type 0} (p : X → Bool) where
  -- if a test sinks, a binary search finds its last
  pub sinks-parted : (xs : List X) → AllLater (Sinks p) xs → IsPartitionedBy p xs
  sinks-parted xs sinks = λ i j d le lt h. grind (arith, later-place (Sinks p) xs i j d sinks)

  -- all pass if the last does
  all-sink : (xs : List X) (x : X) → AllLater (Sinks p) xs → last_of xs ≡ Some x → p x ≡ true → AllByRecursion (λ y. p y ≡ true) xs
  all-sink [] x sinks is h = tt
  all-sink (y ∷ []) x sinks is h = grind arith
  all-sink (y ∷ z ∷ xs) x sinks is h = (all-last (Sinks p y) (z ∷ xs) x is sinks.0 h, all-sink (z ∷ xs) x sinks.1 is h)

  -- none passes after one that fails
  all-behind : (x : X) (xs : List X) → p x ≡ false → AllByRecursion (Sinks p x) xs → AllByRecursion (λ y. p y ≡ false) xs
  all-behind x xs fails sinks = all-weaker (Sinks p x) (λ y. p y ≡ false) xs (λ y sink. grind arith) sinks

module _ {X : Type 0} where
  -- a list's last element
  ends : (xs : List X) → 0 < length xs → (x : X) × (last_of xs ≡ Some x)
  ends [] h = absurd (omega arith)
  ends (x ∷ []) h = (x, refl)
  ends (x ∷ y ∷ xs) h = ends (y ∷ xs) (omega arith)

  pub flat_split : (cs : List (Piece X)) (i : ℕ) → flat cs ≡ flat (take i cs) ++ (rows_at cs i ++ flat (drop (suc i) cs))
  flat_split [] zero = refl
  flat_split [] (suc i) = refl
  flat_split (c ∷ cs) zero = refl
  flat_split (c ∷ cs) (suc i) = ap (λ xs. c.items ++ xs) (flat_split cs i) ∙ sym (append_assoc c.items (flat (take i cs)) (rows_at cs i ++ flat (drop (suc i) cs)))

  -- the rows before a place and those from there on
  pub place_split : (cs : List (Piece X)) (i j : ℕ) → flat cs ≡ before_place cs i j ++ behind_place cs i j
  place_split cs i j =
      let here = rows_at cs i in
      grind (arith, flat_split cs i, take-append-drop j here, append_assoc (take j here) (drop j here) (flat (drop (suc i) cs)), append_assoc (flat (take i cs)) (take j here) (behind_place cs i j))

  pub rows-here : (cs : List (Piece X)) (i : ℕ) (here : Piece X) → slice_get cs i ≡ Some here → rows_at cs i ≡ here.items
  rows-here cs i here is = ap (λ o. option_map_or (λ (chunk : Piece X). chunk.items) o []) is

  -- if a chunk has a row, there is a chunk
  pub has_chunk : (cs : List (Piece X)) (i j : ℕ) → j < length (rows_at cs i) → i < length cs
  has_chunk [] i j h = grind arith
  has_chunk (c ∷ cs) i j h = grind (arith, has_chunk cs (i - 1) j)

  taken_on : (xs : List X) (k : ℕ) (x : X) → slice_get xs k ≡ Some x → drop k xs ≡ x ∷ drop (suc k) xs
  taken_on [] k x h = grind arith
  taken_on (y ∷ xs) zero x h = grind arith
  taken_on (y ∷ xs) (suc k) x h = taken_on xs k x h

  pub chunk_read : (cs : List (Piece X)) (i j : ℕ) (here : Piece X) → j < length (rows_at cs i) → here ≡ get_or cs i here → slice_get cs i ≡ Some here
  chunk_read cs i j here place is = slice_get_read cs (length cs) i here refl (has_chunk cs i j place) is

  -- the rows from a place on are the row there and those after it
  pub behind_more : (cs : List (Piece X)) (i j : ℕ) (x : X) → slice_get (rows_at cs i) j ≡ Some x → behind_place cs i j ≡ x ∷ behind_place cs i (suc j)
  behind_more cs i j x is = grind (arith, taken_on (rows_at cs i) j x)

  first_on : (xs rest : List X) (j : ℕ) → j < length xs → slice_get (drop j xs ++ rest) 0 ≡ slice_get xs j
  first_on [] rest j h = absurd (omega arith)
  first_on (x ∷ xs) rest j h = grind (arith, first_on xs rest (j - 1))

  -- the row at a place is the first from there on
  pub first_behind : (cs : List (Piece X)) (i j : ℕ) → (i < length cs → j < length (rows_at cs i)) → slice_get (behind_place cs i j) 0 ≡ slice_get (rows_at cs i) j
  first_behind cs i j within = grind (arith, nat_tests, slice_get_past, drop_all, suc, rows_at, first_on, flat)

  last-behind : (xs ys zs : List X) → 0 < length ys → last_of (xs ++ (ys ++ zs)) ≡ last_of (ys ++ zs)
  last-behind xs [] zs h = absurd (omega arith)
  last-behind xs (y ∷ ys) zs h = last-append xs (ys ++ zs) y

  pub last-flat : (cs : List (Piece X)) → AreFilled cs → last_of (flat cs) ≡ option_and_then (λ chunk. last_of chunk.items) (last_of cs)
  last-flat [] filled = refl
  last-flat (c ∷ []) filled = ap last_of (append-nil c.items)
  last-flat (c ∷ d ∷ cs) filled = grind (arith, last-behind c.items d.items (flat cs), last-flat (d ∷ cs))

  pub last-before_some : (cs : List (Piece X)) (i k : ℕ) → suc k ≤ length (rows_at cs i) → last_of (before_place cs i (suc k)) ≡ slice_get (rows_at cs i) k
  last-before_some cs i k h = grind (arith, last-behind (flat (take i cs)) (take (suc k) (rows_at cs i)) [], append-nil (take (suc k) (rows_at cs i)), length-take (suc k) (rows_at cs i), last-take (rows_at cs i) k h)

  flat-set : (cs : List (Piece X)) (i : ℕ) (here now : Piece X) → slice_get cs i ≡ Some here → flat (set cs i now) ≡ flat (take i cs) ++ (now.items ++ flat (drop (suc i) cs))
  flat-set [] i here now is = grind arith
  flat-set (c ∷ cs) i here now is = grind (arith, flat-set cs (i - 1) here now, append_assoc c.items (flat (take (i - 1) cs)) (now.items ++ flat (drop i cs)))

  -- one row less in one chunk
  pub flat-taken : (cs : List (Piece X)) (i j : ℕ) (here now : Piece X) → slice_get cs i ≡ Some here → now.items ≡ remove here.items j → flat (set cs i now) ≡ before_place cs i j ++ behind_place cs i (suc j)
  flat-taken cs i j here now is taken = grind (arith, nat_tests, rows_at, flat-set, rows-here, append_assoc, suc, flat, behind_place)

  -- a chunk without rows leaves
  pub flat-remove_empty : (cs : List (Piece X)) (i : ℕ) (here : Piece X) → slice_get cs i ≡ Some here → here.items ≡ [] → flat (remove cs i) ≡ flat cs
  flat-remove_empty [] i here is empty = grind arith
  flat-remove_empty (c ∷ cs) zero here is empty = grind arith
  flat-remove_empty (c ∷ cs) (suc i) here is empty = ap (λ xs. c.items ++ xs) (flat-remove_empty cs i here is empty)

  pub last_room-set : (cs : List (Piece X)) (i : ℕ) (here now : Piece X) → slice_get cs i ≡ Some here → room_of here ≤ room_of now → last_room cs ≤ last_room (set cs i now)
  last_room-set [] i here now is more = omega arith
  last_room-set (c ∷ []) i here now is more = grind arith
  last_room-set (c ∷ d ∷ cs) i here now is more = grind (arith, last_room-set (d ∷ cs) (i - 1) here now)

  update_last-behind : (f : X → X) (xs ys : List X) → 0 < length ys → update_last f (xs ++ ys) ≡ xs ++ update_last f ys
  update_last-behind f xs [] h = absurd (omega arith)
  update_last-behind f xs (y ∷ ys) h = update_last-append f xs y ys

  pub filled-set : (cs : List (Piece X)) (i : ℕ) (now : Piece X) → AreFilled cs → 0 < length now.items → AreFilled (set cs i now)
  filled-set [] zero now filled some = tt
  filled-set [] (suc i) now filled some = tt
  filled-set (c ∷ cs) zero now filled some = (some, filled.1)
  filled-set (c ∷ cs) (suc i) now filled some = (filled.0, filled-set cs i now filled.1 some)

  pub room_needs : (cs : List (Piece X)) → 1 ≤ last_room cs → 1 ≤ length cs
  room_needs [] room = absurd (omega arith)
  room_needs (c ∷ cs) room = omega arith

  module _ (cs : List (Piece X)) (n : ℕ) (here : Piece X) (long : length cs ≡ suc n) (is : slice_get cs n ≡ Some here) where
    pub last_room-here : last_room cs ≡ room_of here
    last_room-here = ap (λ o. option_map_or room_of o 0) (sym (last_at cs n long) ∙ is)

    last_whole : flat cs ≡ flat (take n cs) ++ here.items
    last_whole =
        flat_split cs n ∙ ap (λ xs. flat (take n cs) ++ xs) (ap (λ ds. rows_at cs n ++ flat ds) (drop_all (suc n) cs (omega arith)) ∙ (append-nil (rows_at cs n) ∙ rows-here cs n here is))

    last_set : (now : Piece X) → flat (set cs n now) ≡ flat (take n cs) ++ now.items
    last_set now = flat-set cs n here now is ∙ ap (λ xs. flat (take n cs) ++ xs) (ap (λ ds. now.items ++ flat ds) (drop_all (suc n) cs (omega arith)) ∙ append-nil now.items)

    -- a row more in it
    pub flat-set_last : (now : Piece X) (x : X) → now.items ≡ here.items ++ x ∷ [] → flat (set cs n now) ≡ flat cs ++ x ∷ []
    flat-set_last now x more = grind (arith, nat_tests, last_set, flat, append_assoc, last_whole)

    -- its last row changed
    pub flat-change_last : (f : X → X) (now : Piece X) → 0 < length here.items → now.items ≡ update_last f here.items → flat (set cs n now) ≡ update_last f (flat cs)
    flat-change_last f now filled changed = grind (arith, last_set now, last_whole, update_last-behind f (flat (take n cs)) here.items filled)

    pub last_room-change : (now : Piece X) → room_of now ≡ room_of here → last_room (set cs n now) ≡ last_room cs
    last_room-change now same =
        grind (arith, last_room-here, last_at (set cs n now) n, length-set cs n now, slice_get_read (set cs n now) (length cs) n now, get_or-set_same cs n now now)

module _ {X : Type 0} (p : X → Bool) where
  abbrev pub chunk_ends : Piece X → Bool
  chunk_ends chunk = ends_before p chunk.items

  -- the chunks that end before a cut are first
  sinks_past : (c : Piece X) (x : X) → last_of c.items ≡ Some x → (ds : List (Piece X)) → AreFilled ds → AllByRecursion (Sinks p x) (flat ds) → AllByRecursion (Sinks chunk_ends c) ds
  sinks_past c x is [] filled all = tt
  sinks_past c x is (d ∷ ds) filled all =
      let other = ends d.items filled.0 in
      let sink = all-last (Sinks p x) d.items other.0 other.1 (all-left (Sinks p x) d.items (flat ds) all) in
      ((λ h. grind arith), sinks_past c x is ds filled.1 (all-right (Sinks p x) d.items (flat ds) all))

  pub chunks_sink : (cs : List (Piece X)) → AreFilled cs → AllLater (Sinks p) (flat cs) → AllLater (Sinks chunk_ends) cs
  chunks_sink [] filled sinks = tt
  chunks_sink (c ∷ cs) filled sinks =
      let end = ends c.items filled.0 in
      (sinks_past c end.0 end.1 cs filled.1 (later-across (Sinks p) c.items (flat cs) end.0 sinks end.1), chunks_sink cs filled.1 (later-right (Sinks p) c.items (flat cs) sinks))

  all_before : (cs : List (Piece X)) → AreFilled cs → AllLater (Sinks p) (flat cs) → AllByRecursion (λ c. chunk_ends c ≡ true) cs → AllByRecursion (λ x. p x ≡ true) (flat cs)
  all_before [] filled sinks before = tt
  all_before (c ∷ cs) filled sinks before = grind (arith, nat_tests, ends, all-append, flat, all-sink, later-left, later-right, all_before cs)

  -- the place of the first row after a cut, from the first chunk that doesn't end before it
  module _ (cs : List (Piece X)) (i : ℕ) (filled : AreFilled cs) (sinks : AllLater (Sinks p) (flat cs)) (bound : i ≤ length cs) (ended : AllByRecursion (λ c. chunk_ends c ≡ true) (take i cs)) where
    both : AllLater (Sinks p) (flat (take i cs) ++ (rows_at cs i ++ flat (drop (suc i) cs)))
    both = rw (← flat_split cs i) sinks

    front : AllByRecursion (λ x. p x ≡ true) (flat (take i cs))
    front = all_before (take i cs) (all-left _ (take i cs) (drop i cs) (rw (take-append-drop i cs) filled)) (later-left (Sinks p) (flat (take i cs)) _ both) ended

    pub seam_past : length cs ≤ i → IsSeam p cs i 0
    seam_past past = record { chunk = bound; place = omega arith; within = λ less. absurd (omega arith); passes = rw append-nil front; fails = rw (slice_get_past cs i past, drop_all (suc i) cs (omega arith)) tt }

    module _ (here : Piece X) (is : slice_get cs i ≡ Some here) where
      here_behind : AllLater (Sinks p) (here.items ++ flat (drop (suc i) cs))
      here_behind = rw (rows-here cs i here is) at (later-right (Sinks p) (flat (take i cs)) (rows_at cs i ++ flat (drop (suc i) cs)) both)

      pub here_sinks : AllLater (Sinks p) here.items
      here_sinks = later-left (Sinks p) here.items (flat (drop (suc i) cs)) here_behind

      pub seam_here : chunk_ends here ≡ false → (j : ℕ) → j ≤ length here.items → IsPartitionPoint (λ x. p x ≡ true) (λ x. p x ≡ false) here.items j → IsSeam p cs i j
      seam_here fails j within point =
          let end = ends here.items (all-got (λ (c : Piece X). 0 < length c.items) cs i here filled is) in
          let before : AllByRecursion (λ x. p x ≡ true) (take j here.items) = all-take _ here.items j point.0 in
          record {
            chunk = bound;
            place = rw (rows-here cs i here is) within;
            within = λ less. grind (arith, rows-here cs i here is, take_all j here.items, all-last (λ x. p x ≡ true) here.items end.0 end.1);
            passes = rw (rows-here cs i here is) (all-append _ (flat (take i cs)) (take j here.items) front before);
            fails = rw (rows-here cs i here is) (all-append _ (drop j here.items) (flat (drop (suc i) cs)) (all-drop _ here.items j point.1) (all-behind p end.0 (flat (drop (suc i) cs)) (grind arith) (later-across (Sinks p) here.items (flat (drop (suc i) cs)) end.0 here_behind end.1)));
          }

module _ {X : Type 0} where
  -- a search for a key
  module _ (key : X → ℕ) (this : ℕ) where
    abbrev below : X → Bool
    below x = ltb (key x) this

    lesser : (xs : List X) → AllByRecursion (λ x. below x ≡ true) xs → AllByRecursion (λ x. stands_by key this x ≡ false) xs
    lesser xs all = all-weaker (λ x. below x ≡ true) (λ x. stands_by key this x ≡ false) xs (λ x h. grind (arith, nat_tests, h)) all

    -- a row of the key, with none of that key before it
    module _ (cs : List (Piece X)) (i j : ℕ) (x : X) (is : slice_get (rows_at cs i) j ≡ Some x) (same : key x ≡ this) where
      whole : flat cs ≡ before_place cs i j ++ x ∷ behind_place cs i (suc j)
      whole = place_split cs i j ∙ ap (λ xs. before_place cs i j ++ xs) (behind_more cs i j x is)

      first : AllByRecursion (λ y. stands_by key this y ≡ false) (before_place cs i j) → IsPlaceOf (stands_by key this) cs i j
      first none =
          let p = stands_by key this in
          let found : find p (flat cs) ≡ Some x = grind (arith, nat_tests, whole, find-at p (before_place cs i j) x (behind_place cs i (suc j)) none) in
          record { within = slice_get_within (rows_at cs i) j x is; found = found ∙ sym is; rest = grind (arith, nat_tests, whole, remove_first-at p (before_place cs i j) x (behind_place cs i (suc j)) none); shorter = length-remove_first p (flat cs) x found }

      -- as keys rise
      key_there : Rises key (flat cs) → IsPlaceOf (stands_by key this) cs i j
      key_there rises =
          let less = (later-around (λ y z. key y < key z) (before_place cs i j) x (behind_place cs i (suc j)) (rw (← whole) rises)).0 in
          first (all-weaker (λ y. key y < key x) (λ y. stands_by key this y ≡ false) (before_place cs i j) (λ y lt. grind (arith, nat_tests, lt, same)) less)

    -- keys rise in each chunk
    pub chunk_rises : (cs : List (Piece X)) (i : ℕ) (here : Piece X) → Rises key (flat cs) → slice_get cs i ≡ Some here → Rises key here.items
    chunk_rises cs i here rises is =
        let R = λ (x y : X). key x < key y in
        rw (rows-here cs i here is) at (later-left R (rows_at cs i) (flat (drop (suc i) cs)) (later-right R (flat (take i cs)) (rows_at cs i ++ flat (drop (suc i) cs)) (rw (← flat_split cs i) rises)))

    -- a row of the key that is the first of its chunk
    pub dense_found : (cs : List (Piece X)) (i j : ℕ) (here : Piece X) → Rises key (flat cs) → slice_get cs i ≡ Some here → position (stands_by key this) here.items ≡ Some j → IsPlaceOf (stands_by key this) cs i j
    dense_found cs i j here rises is at = by here.items refl where
      by : (xs : List X) → here.items ≡ xs → IsPlaceOf (stands_by key this) cs i j
      by [] e = absurd (grind (arith, nat_tests))
      by (d ∷ xs) e =
          let stands = position-Some (stands_by key this) here.items j d at in
          key_there cs i j (get_or here.items j d) (grind (arith, rows-here cs i here is, slice_get-get_or here.items j d)) (grind (arith, nat_tests, stands.1)) rises

    module _ (cs : List (Piece X)) (i j : ℕ) (seam : IsSeam below cs i j) where
      pub key_found : (x : X) → slice_get (rows_at cs i) j ≡ Some x → key x ≡ this → IsPlaceOf (stands_by key this) cs i j
      key_found x is same = first cs i j x is same (lesser (before_place cs i j) seam.passes)

      pub key_missing : Rises key (flat cs) → ((x : X) → slice_get (rows_at cs i) j ≡ Some x → key x ≢ this) → AllByRecursion (λ x. stands_by key this x ≡ false) (flat cs)
      key_missing rises other =
          let whole = place_split cs i j in
          let both : Rises key (before_place cs i j ++ behind_place cs i j) = rw (← whole) rises in
          rw whole (all-append _ (before_place cs i j) (behind_place cs i j) (lesser (before_place cs i j) seam.passes) (by (behind_place cs i j) (later-right (λ x y. key x < key y) (before_place cs i j) (behind_place cs i j) both) seam.fails (λ x is. other x (sym (first_behind cs i j seam.within) ∙ is))))
        where
          by : (xs : List X) → Rises key xs → AllByRecursion (λ x. below x ≡ false) xs → ((x : X) → slice_get xs 0 ≡ Some x → key x ≢ this) → AllByRecursion (λ x. stands_by key this x ≡ false) xs
          by [] rises fails other = tt
          by (x ∷ xs) rises fails other = grind (arith, nat_tests, other x refl, all-weaker (λ y. key x < key y) (λ y. stands_by key this y ≡ false) xs)
