-- What is counted at each of some moments.
use Rattle.std.proofs.Common.{◌≡◌, ℕ, ◌+◌, ◌<◌, List, [], ◌∷◌, ◌++◌, length, map, take, get_or, sym, ap, ◌∙◌}
use Rattle.std.proofs.lemmas.List.{map-append, take_more}
use Rattle.std.specs.List.{AllByRecursion}
use Rattle.ele_forecast_forms.specs.declared.counts.Counts.{Counts}
use Rattle.ele_forecast_text.specs.declared.plan.Plan.{Plan}
use Rattle.ele_space.specs.Amounts.{AreAmounts, AreAmountsAt}
use Rattle.ele_space.specs.declared.amounts.Amounts.{Amounts}

all_more : {A : Type 0} (P : A → Type 0) (xs : List A) (x : A) → AllByRecursion P xs → P x → AllByRecursion P (xs ++ x ∷ [])
all_more P [] x all is = (is, tt)
all_more P (y ∷ xs) x all is = (all.0, all_more P xs x all.1 is)

pub amounts_more : (moments : List ℕ) (i : ℕ) (closings sizes : List ℕ) (plans : List Plan) (rows : List Amounts) (row : Amounts) → AreAmountsAt (take i moments) closings sizes plans rows → i < length moments → row.at ≡ get_or moments i row.at
    → AreAmounts closings sizes plans row → AreAmountsAt (take (i + 1) moments) closings sizes plans (rows ++ row ∷ [])
amounts_more moments i closings sizes plans rows row far lt at is =
    record {
      at = map-append (λ (r : Amounts). r.at) rows (row ∷ []) ∙ ap (λ (ms : List ℕ). ms ++ row.at ∷ []) far.at ∙ ap (λ (m : ℕ). take i moments ++ m ∷ []) at ∙ sym (take_more moments i row.at lt);
      kept = all_more (AreAmounts closings sizes plans) rows row far.kept is;
    }

-- one more item of a list
pub map_one_more : {A B : Type 0} (f : A → B) (xs : List A) (i : ℕ) (x : A) → i < length xs → x ≡ get_or xs i x → map f (take i xs) ++ f x ∷ [] ≡ map f (take (i + 1) xs)
map_one_more {A} f xs i x lt is =
    sym (map-append f (take i xs) (x ∷ [])) ∙ ap (map f) (ap (λ (y : A). take i xs ++ y ∷ []) is ∙ sym (take_more xs i x lt))

-- one more moment of counts
pub moments_more : (rows : List Counts) (i : ℕ) (row : Counts) → i < length rows → row ≡ get_or rows i row → map (λ (r : Counts). r.at) (take i rows) ++ row.at ∷ [] ≡ map (λ (r : Counts). r.at) (take (i + 1) rows)
moments_more rows i row lt is = map_one_more (λ (r : Counts). r.at) rows i row lt is
