-- Moments in equal steps, and what is counted at each.
use Rattle.std.proofs.Common.{◌≡◌, ℕ, zero, suc, ◌+◌, ◌*◌, ◌/◌, ◌<◌, ◌≤◌, List, [], ◌∷◌, ◌++◌, length, map, take, drop, get_or, sym, ap, subst, ◌∙◌, arith}
use Rattle.std.proofs.Math.Nat.{mul-div-le}
use Rattle.std.proofs.lemmas.List.{at_drop_all, drop_more, map-append, take_more}
use Rattle.std.specs.List.{AllByRecursion, AllZip, fold, range_with_len}
use Rattle.ele_forecast_text.specs.declared.plan.Plan.{Plan}
use Rattle.ele_forecast_forms.specs.OverTime.{AreCounts, AreCountsAt, moments_from}
use Rattle.ele_forecast_forms.specs.declared.counts.Counts.{Counts}

-- so many steps are no longer than all
pub steps_within : (k step span : ℕ) → k < span / step + 1 → step * k ≤ span
steps_within k step span lt =
    let few : k ≤ span / step = omega (arith, lt) in
    let most = mul-div-le span step in
    grind (arith, few, most)

-- one more number
range_more : {A : Type 0} (f : ℕ → A) (a n : ℕ) → map f (range_with_len a n) ++ f (a + n) ∷ [] ≡ map f (range_with_len a (suc n))
range_more f a zero =
    let same : a + 0 ≡ a = omega arith in
    ap (λ (m : ℕ). f m ∷ []) same
range_more {A} f a (suc n) =
    let same : a + 1 + n ≡ a + suc n = omega arith in
    ap (λ (xs : List A). f a ∷ xs) (ap (λ (m : ℕ). map f (range_with_len (a + 1) n) ++ f m ∷ []) (sym same) ∙ range_more f (a + 1) n)

pub moments_more : (step first n : ℕ) → moments_from step first n ++ (first + step * n) ∷ [] ≡ moments_from step first (n + 1)
moments_more step first n =
    let e : suc n ≡ n + 1 = omega arith in
    let z : n ≡ 0 + n = omega arith in
    let line = λ (k : ℕ). first + step * k in
    ap (λ (m : ℕ). map line (range_with_len 0 n) ++ line m ∷ []) z ∙ range_more line 0 n ∙ ap (λ (m : ℕ). map line (range_with_len 0 m)) e

all_more : {A : Type 0} (P : A → Type 0) (xs : List A) (x : A) → AllByRecursion P xs → P x → AllByRecursion P (xs ++ x ∷ [])
all_more P [] x all is = (is, tt)
all_more P (y ∷ xs) x all is = (all.0, all_more P xs x all.1 is)

-- the counts of one more moment
pub counts_more : (moments : List ℕ) (i : ℕ) (closings : List ℕ) (plans : List Plan) (rows : List Counts) (row : Counts) → AreCountsAt (take i moments) closings plans rows → i < length moments → row.at ≡ get_or moments i row.at → AreCounts closings plans row
    → AreCountsAt (take (i + 1) moments) closings plans (rows ++ row ∷ [])
counts_more moments i closings plans rows row far lt at is =
    record {
      at = map-append (λ (r : Counts). r.at) rows (row ∷ []) ∙ ap (λ (ms : List ℕ). ms ++ row.at ∷ []) far.at ∙ ap (λ (m : ℕ). take i moments ++ m ∷ []) at ∙ sym (take_more moments i row.at lt);
      kept = all_more (AreCounts closings plans) rows row far.kept is;
    }

-- one more of two lists side by side
zip_next : {A B : Type 0} (R : A → B → Type 0) (xs : List A) (i : ℕ) (x : A) (ys : List B) (y : B) → i < length xs → x ≡ get_or xs i x → AllZip R (take i xs) ys → R x y → AllZip R (take (suc i) xs) (ys ++ y ∷ [])
zip_next R [] i x ys y lt is far made = absurd (omega (arith, lt))
zip_next {A} R (q ∷ qs) zero x [] y lt is far made = (subst (λ (p : A). R p y) is made, tt)
zip_next R (q ∷ qs) zero x (z ∷ ys) y lt is far made = absurd far
zip_next R (q ∷ qs) (suc i) x [] y lt is far made = absurd far
zip_next R (q ∷ qs) (suc i) x (z ∷ ys) y lt is far made =
    let rest = zip_next R qs i x ys y (omega (arith, lt)) is far.1 made in
    (far.0, rest)

pub zip_more : {A B : Type 0} (R : A → B → Type 0) (xs : List A) (i : ℕ) (x : A) (ys : List B) (y : B) → i < length xs → x ≡ get_or xs i x → AllZip R (take i xs) ys → R x y → AllZip R (take (i + 1) xs) (ys ++ y ∷ [])
zip_more {A} R xs i x ys y lt is far made =
    let same : suc i ≡ i + 1 = omega arith in
    subst (λ (n : ℕ). AllZip R (take n xs) (ys ++ y ∷ [])) same (zip_next R xs i x ys y lt is far made)
