-- Closings that never fall.
use Rattle.ele_forecast.proofs.Words.{◌≡◌, ℕ, suc, ◌-◌, ◌≤◌, Bool, true, false, cond, List, [], ◌∷◌, ◌++◌, Some, ap, ◌∙◌, arith, length, slice_get, AllByRecursion, AllLater, later-push}

below_end : (c : ℕ) (cs : List ℕ) (last m : ℕ) → AllLater ◌≤◌ (c ∷ cs) → slice_get (c ∷ cs) (length cs) ≡ Some last → last ≤ m → AllByRecursion (λ x. x ≤ m) (c ∷ cs)
below_end c [] last m rising e below = let same : c ≡ last = cc in (omega arith, tt)
below_end c (d ∷ cs) last m rising e below =
    let rest = below_end d cs last m rising.1 e below in
    let next = rising.0.0 in let first = rest.0 in
    (omega arith, rest)

-- none of them is after the last
pub below_last : (cs : List ℕ) (last m : ℕ) → AllLater ◌≤◌ cs → slice_get cs (length cs - 1) ≡ Some last → last ≤ m → AllByRecursion (λ x. x ≤ m) cs
below_last [] last m rising e below = tt
below_last (c ∷ cs) last m rising e below = let place : length cs ≡ suc (length cs) - 1 = omega arith in below_end c cs last m rising (ap (slice_get (c ∷ cs)) place ∙ e) below

-- another after them or none
pub pushed : (b : Bool) (cs : List ℕ) (c : ℕ) → AllLater ◌≤◌ cs → AllByRecursion (λ x. x ≤ c) cs → AllLater ◌≤◌ (cond b (cs ++ c ∷ []) cs)
pushed true cs c rising below = later-push ◌≤◌ cs c rising below
pushed false cs c rising below = rising
