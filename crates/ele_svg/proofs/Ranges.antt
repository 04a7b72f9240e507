-- What the numbers of a range and of a list come to.
use Rattle.std.proofs.Common.{◌≡◌, ℕ, zero, suc, ◌+◌, ◌-◌, ◌*◌, ◌/◌, ◌<◌, ◌≤◌, List, [], ◌∷◌, ◌++◌, length, drop, get_or, map, ap, sym, ◌∙◌, arith}
use Rattle.std.proofs.Math.Nat.{mul-div-le}
use Rattle.std.proofs.lemmas.List.{drop_more}
use Rattle.std.specs.List.{flat_map, fold, range_with_len}
use Rattle.std.specs.Prelude.{max}

range_more : (f : ℕ → ℕ) (a n : ℕ) → map f (range_with_len a n) ++ f (a + n) ∷ [] ≡ map f (range_with_len a (suc n))
range_more f a zero =
    let same : a + 0 ≡ a = omega arith in
    ap (λ (m : ℕ). f m ∷ []) same
range_more f a (suc n) =
    let same : a + 1 + n ≡ a + suc n = omega arith in
    ap (λ (xs : List ℕ). f a ∷ xs) (ap (λ (m : ℕ). map f (range_with_len (a + 1) n) ++ f m ∷ []) (sym same) ∙ range_more f (a + 1) n)

-- one more number
pub map_more : (f : ℕ → ℕ) (n : ℕ) → map f (range_with_len 0 n) ++ f n ∷ [] ≡ map f (range_with_len 0 (n + 1))
map_more f n =
    let e : suc n ≡ n + 1 = omega arith in
    let z : n ≡ 0 + n = omega arith in
    ap (λ (m : ℕ). map f (range_with_len 0 n) ++ f m ∷ []) z ∙ range_more f 0 n ∙ ap (λ (m : ℕ). map f (range_with_len 0 m)) e

-- at a number of a list, it is taken in
pub fold_here : {B : Type 0} (f : B → ℕ → B) (b : B) (xs : List ℕ) (i d : ℕ) → i < length xs → fold f b (drop i xs) ≡ fold f (f b (get_or xs i d)) (drop (i + 1) xs)
fold_here f b xs i d lt = ap (λ (ys : List ℕ). fold f b ys) (drop_more xs i d lt)

-- a number that rises is still one at least
pub still_some : (a b : ℕ) → 0 < a → a ≤ b → 0 < b
still_some a b some rises = omega (arith, some, rises)

-- a column is no farther than the last one
pub within_span : (span column : ℕ) → column < 187 → span * column / 186 ≤ span
within_span span column lt =
    let most = mul-div-le (span * column) 186 in
    grind (arith, lt, most)

-- at a number of a range, it is taken in
pub fold_range : {B : Type 0} (f : B → ℕ → B) (b : B) (k n : ℕ) → k < n → fold f b (range_with_len k (n - k)) ≡ fold f (f b k) (range_with_len (k + 1) (n - (k + 1)))
fold_range f b k n lt =
    let e : n - k ≡ suc (n - (k + 1)) = omega (arith, lt) in
    ap (λ (m : ℕ). fold f b (range_with_len k m)) e

-- behind the last number, none is
pub fold_none : {B : Type 0} (f : B → ℕ → B) (b : B) (k n : ℕ) → n ≤ k → fold f b (range_with_len k (n - k)) ≡ b
fold_none f b k n le =
    let e : n - k ≡ 0 = omega (arith, le) in
    ap (λ (m : ℕ). fold f b (range_with_len k m)) e

-- the larger of a number that is one at least and another is too
pub some_max : (a b : ℕ) → 0 < a → 0 < max a b
some_max a b some = omega (arith, some)
