-- What is folded of the items of a list that are left, and the texts of the numbers of a range.
use Rattle.std.proofs.Common.{◌≡◌, ℕ, suc, ◌+◌, ◌-◌, ◌<◌, ◌≤◌, List, [], ◌++◌, length, drop, get_or, sym, ap, ◌∙◌, arith}
use Rattle.std.proofs.lemmas.List.{at_drop_all, drop_more}
use Rattle.std.specs.List.{flat_map, fold, range_with_len}

-- at an item of a list, it is next
pub fold_more : {A B : Type 0} (f : B → A → B) (b : B) (xs : List A) (i : ℕ) (x : A) → i < length xs → x ≡ get_or xs i x → fold f b (drop i xs) ≡ fold f (f b x) (drop (i + 1) xs)
fold_more {A} {B} f b xs i x lt is = ap (λ (ys : List A). fold f b ys) (drop_more xs i x lt) ∙ ap (λ (y : A). fold f (f b y) (drop (i + 1) xs)) (sym is)

-- at the end of a list, nothing is
pub fold_end : {A B : Type 0} (f : B → A → B) (b : B) (xs : List A) (i : ℕ) → length xs ≤ i → fold f b (drop i xs) ≡ b
fold_end {A} f b xs i le = at_drop_all (λ (ys : List A). fold f b ys) xs i le

-- before the first number of a range, all of them are left
pub each_first : (line : ℕ → List ℕ) (n : ℕ) → flat_map line (range_with_len 0 n) ≡ flat_map line (range_with_len 0 (n - 0))
each_first line n =
    let e : n ≡ n - 0 = omega arith in
    ap (λ (m : ℕ). flat_map line (range_with_len 0 m)) e

-- at a number, it is next
pub each_more : (line : ℕ → List ℕ) (k n : ℕ) → k < n → flat_map line (range_with_len k (n - k)) ≡ line k ++ flat_map line (range_with_len (k + 1) (n - (k + 1)))
each_more line k n lt =
    let e : n - k ≡ suc (n - (k + 1)) = omega (arith, lt) in
    ap (λ (m : ℕ). flat_map line (range_with_len k m)) e

-- behind the last number, none is
pub each_none : (line : ℕ → List ℕ) (k n : ℕ) → n ≤ k → flat_map line (range_with_len k (n - k)) ≡ []
each_none line k n le =
    let e : n - k ≡ 0 = omega (arith, le) in
    ap (λ (m : ℕ). flat_map line (range_with_len k m)) e
