-- Lists in pieces of c items; the last may be shorter.
use Rattle.ele_blocks.proofs.Words.{[], add-one, ap, append-nil, append_cancel_left, AreSized, arith, drop, drop-drop, drop-take, drop_min, drop_more, fills, first_chunks, flat_map, flat_map-append, get_or, laid_over, length, length-append, length-drop, length-take, length-take-le, List, map, min, mul-suc, nat_tests, nil_from_length, refl, suc, sym, take, take-append-add, take-append-drop, take-nil, take-take, take_all, take_min, true, zero, ℕ, ◌*◌, ◌++◌, ◌+◌, ◌-◌, ◌<◌, ◌∙◌, ◌∷◌, ◌≡◌, ◌≤◌, ◌⊎◌}

-- the test is what it tests
pub fills_sized : {A X : Type 0} (c : ℕ) (f : A → List X) (n : ℕ) (xs : List A) → fills c f n xs ≡ true → AreSized c f n xs
fills_sized c f n [] h = grind (arith, nat_tests)
fills_sized c f n (x ∷ xs) h = (grind (arith, nat_tests, h), grind (arith, nat_tests, h), fills_sized c f (n - c) xs (grind (arith, nat_tests, h)))

pub sized_fills : {A X : Type 0} (c : ℕ) (f : A → List X) (n : ℕ) (xs : List A) → AreSized c f n xs → fills c f n xs ≡ true
sized_fills c f n [] h = grind (arith, nat_tests, h)
sized_fills c f n (x ∷ xs) h = grind (arith, nat_tests, sized_fills c f (n - c) xs h.2)

pub fills-map : {A X : Type 0} (c : ℕ) (f g : A → List X) (n : ℕ) (xs : List A) → map f xs ≡ map g xs → fills c f n xs ≡ fills c g n xs
fills-map c f g n [] e = refl
fills-map c f g n (x ∷ xs) e = grind (arith, fills-map c f g (n - c) xs (cc))

module _ {A X : Type 0} (c : ℕ) (f : A → List X) (some : 0 < c) where
  pub sized-is : (n m : ℕ) (xs : List A) → n ≡ m → AreSized c f n xs → AreSized c f m xs
  sized-is n m xs e h = rw (sym e) h

  pub sized-nil : (xs : List A) → AreSized c f 0 xs → xs ≡ []
  sized-nil [] h = refl
  sized-nil (x ∷ xs) h = absurd (omega (arith, h))

  -- as many items, and as many pieces
  pub sized-length : (n : ℕ) (xs : List A) → AreSized c f n xs → length (flat_map f xs) ≡ n
  sized-length n [] h = omega (arith, h)
  sized-length n (x ∷ xs) h = omega (arith, h, sized-length (n - c) xs h.2, length-append (f x) (flat_map f xs))

  pub sized-count : (n : ℕ) (xs : List A) → AreSized c f n xs → (n ≤ c * length xs) × (c * length xs < n + c)
  sized-count n [] h = grind arith
  sized-count n (x ∷ xs) h = grind (arith, mul-suc c (length xs), sized-count (n - c) xs h.2, sized-nil xs)

  pub sized-drop : (k n : ℕ) (xs : List A) → AreSized c f n xs → AreSized c f (n - c * k) (drop k xs)
  sized-drop zero n xs h = sized-is n (n - c * 0) xs (omega arith) h
  sized-drop (suc k) n [] h = omega (arith, h)
  sized-drop (suc k) n (x ∷ xs) h = sized-is (n - c - c * k) (n - c * suc k) (drop k xs) (omega (arith, mul-suc c k)) (sized-drop k (n - c) xs h.2)

  pub sized-take : (k n : ℕ) (xs : List A) → AreSized c f n xs → AreSized c f (min n (c * k)) (take k xs)
  sized-take zero n xs h = omega arith
  sized-take (suc k) n [] h = omega (arith, h)
  sized-take (suc k) n (x ∷ xs) h = (omega (arith, h, mul-suc c k), omega (arith, h, mul-suc c k), sized-is (min (n - c) (c * k)) (min n (c * suc k) - c) (take k xs) (omega (arith, mul-suc c k)) (sized-take k (n - c) xs h.2))

  -- whole pieces, and what follows them
  pub sized-append : (n m : ℕ) (xs ys : List A) → AreSized c f n xs → AreSized c f m ys → (n ≡ c * length xs) ⊎ (m ≡ 0) → AreSized c f (n + m) (xs ++ ys)
  sized-append n m [] ys h k e = sized-is m (n + m) ys (omega (arith, h)) k
  sized-append n m (x ∷ xs) ys h k e = grind (arith, mul-suc c (length xs), sized-append (n - c) m xs ys h.2 k, sized-is (n - c + m) (n + m - c) (xs ++ ys))

  -- the items of some pieces
  pub flat-take : (k n : ℕ) (xs : List A) → AreSized c f n xs → flat_map f (take k xs) ≡ take (c * k) (flat_map f xs)
  flat-take zero n xs h = grind arith
  flat-take (suc k) n [] h = grind (arith, take_all)
  flat-take (suc k) n (x ∷ xs) h = grind (arith, mul-suc c k, flat-take k (n - c) xs h.2, take-append-add (f x) (flat_map f xs) (c * k), sized-nil xs, take-nil {A = A} k, take_all (c * suc k) (f x ++ []), append-nil (f x), length-append (f x) [])

  pub flat-drop : (k n : ℕ) (xs : List A) → AreSized c f n xs → flat_map f (drop k xs) ≡ drop (c * k) (flat_map f xs)
  flat-drop k n xs h = append_cancel_left (take (c * k) (flat_map f xs)) (flat_map f (drop k xs)) (drop (c * k) (flat_map f xs)) (grind (arith, flat-take k n xs h, flat_map-append f (take k xs) (drop k xs), take-append-drop k xs, take-append-drop (c * k) (flat_map f xs)))

  pub flat-at : (k n : ℕ) (xs : List A) (d : A) → AreSized c f n xs → k < length xs → f (get_or xs k d) ≡ take c (drop (c * k) (flat_map f xs))
  flat-at k n xs d h lt = grind (arith, append-nil (f (get_or xs k d)), drop_more xs k d lt, flat-take 1 (n - c * k) (drop k xs) (sized-drop k n xs h), flat-drop k n xs h)

  -- pieces laid over others
  pub flat-laid : (first n : ℕ) (new old : List A) → AreSized c f n old → flat_map f (laid_over first new old) ≡ take (c * first) (flat_map f old) ++ (flat_map f new ++ drop (c * (first + length new)) (flat_map f old))
  flat-laid first n new old h = rw (flat_map-append f (take first old) (new ++ drop (first + length new) old), flat-take first n old h, flat_map-append f new (drop (first + length new) old), flat-drop (first + length new) n old h) refl

  pub sized-laid : (first n m : ℕ) (new old : List A) → AreSized c f n old → AreSized c f m new → first ≤ length old → c * first ≤ n → (m ≡ c * length new) ⊎ (n ≤ c * (first + length new)) → AreSized c f (c * first + (m + (n - c * (first + length new)))) (laid_over first new old)
  sized-laid first n m new old h k within fit reach = grind (arith, sized-append (c * first) (m + (n - c * (first + length new))) (take first old) (new ++ drop (first + length new) old), sized-is (min n (c * first)) (c * first) (take first old), sized-take first n old h, sized-append m (n - c * (first + length new)) new (drop (first + length new) old) k (sized-drop (first + length new) n old h), length-take-le first old within)

-- pieces that show the same
pub sized-map : {A B X : Type 0} (c : ℕ) (f : A → List X) (g : B → List X) (n : ℕ) (xs : List A) (ys : List B) → map f xs ≡ map g ys → AreSized c f n xs → AreSized c g n ys
sized-map c f g n [] [] e h = h
sized-map c f g n [] (y ∷ ys) e h = absurd cc
sized-map c f g n (x ∷ xs) [] e h = absurd cc
sized-map c f g n (x ∷ xs) (y ∷ ys) e h = grind (arith, sized-map c f g (n - c) xs ys (cc) h.2)

-- a list that is cut
module _ {X : Type 0} (c : ℕ) (some : 0 < c) where
  pub sized-chunks : (k : ℕ) (xs : List X) → length xs ≤ c * k → c * k < length xs + c → AreSized c (λ piece. piece) (length xs) (first_chunks c k xs)
  sized-chunks zero xs enough few = omega (arith, enough)
  sized-chunks (suc k) xs enough few = let size = length-drop c xs in (omega (arith, length-take c xs), omega (arith, few, mul-suc c k), rw (← size) (sized-chunks k (drop c xs) (omega (arith, enough, size, mul-suc c k)) (omega (arith, few, size, mul-suc c k))))

  pub chunks_joined : (k : ℕ) (xs : List X) → length xs ≤ c * k → flat_map (λ piece. piece) (first_chunks c k xs) ≡ xs
  chunks_joined zero xs le = sym (nil_from_length xs (omega (arith, le)))
  chunks_joined (suc k) xs le = ap (λ ys. take c xs ++ ys) (chunks_joined k (drop c xs) (omega (arith, le, length-drop c xs, mul-suc c k))) ∙ take-append-drop c xs

-- the next chunk, as a split makes it
pub chunk_next : {X : Type 0} (c left more n : ℕ) (rest front back : List X) → left ≡ more + 1 → n ≡ min (length rest) c → front ≡ take n rest → back ≡ drop n rest → first_chunks c left rest ≡ front ∷ first_chunks c more back
chunk_next c left more n rest front back one size is_front is_back = let turned : n ≡ min c (length rest) = omega (arith, size) in rw (is_front, is_back, turned, take_min c rest, drop_min c rest, one, add-one) refl

pub length-chunks : {X : Type 0} (c k : ℕ) (xs : List X) → length (first_chunks c k xs) ≡ k
length-chunks c zero xs = refl
length-chunks c (suc k) xs = omega (arith, length-chunks c k (drop c xs))

-- one chunk more
pub chunk_more : {X : Type 0} (c k : ℕ) (xs : List X) → first_chunks c (k + 1) xs ≡ first_chunks c k xs ++ take c (drop (c * k) xs) ∷ []
chunk_more c zero xs = let none : c * 0 ≡ 0 = omega arith in rw none refl
chunk_more c (suc k) xs = let place : c + c * k ≡ c * suc k = omega (arith, mul-suc c k) in let more = rw (add-one k) at (chunk_more c k (drop c xs)) in rw (add-one (suc k), more, drop-drop (c * k) c xs, place) refl

-- the chunks of the items that they hold
pub chunks_taken : {X : Type 0} (c k : ℕ) (xs : List X) → first_chunks c k (take (c * k) xs) ≡ first_chunks c k xs
chunks_taken c zero xs = refl
chunks_taken c (suc k) xs = grind (arith, mul-suc c k, take-take c (c + c * k) xs, drop-take c (c * k) xs, chunks_taken c k (drop c xs))
