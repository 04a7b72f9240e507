-- Numbers that rise and are bounded are few.
use Rattle.ele_well_formed.proofs.Words.{AllByRecursion, AllLater, List, [], all-any, all-weaker, arith, length, ℕ, ◌+◌, ◌<◌, ◌∷◌, ◌≤◌}

rising_from : {X : Type 0} (key : X → ℕ) (most low : ℕ) (xs : List X) → low ≤ most + 1 → AllByRecursion (λ x. low ≤ key x) xs → AllByRecursion (λ x. key x ≤ most) xs → AllLater (λ x y. key x < key y) xs → length xs + low ≤ most + 1
rising_from key most low [] le above below later = omega arith
rising_from key most low (x ∷ xs) le above below later =
    let top = below.0 in
    let start = above.0 in
    let rest = rising_from key most (key x + 1) xs (omega (arith, top)) (all-weaker (λ y. key x < key y) (λ y. key x + 1 ≤ key y) xs (λ y lt. omega (arith, lt)) later.0) below.1 later.1 in
    omega (arith, rest, start)

-- from 0 up to the greatest there are at most one more
pub rising_few : {X : Type 0} (key : X → ℕ) (most : ℕ) (xs : List X) → AllByRecursion (λ x. key x ≤ most) xs → AllLater (λ x y. key x < key y) xs → length xs ≤ most + 1
rising_few key most xs below later = omega (arith, rising_from key most 0 xs (omega arith) (all-any (λ y. 0 ≤ key y) xs (λ y. omega arith)) below later)
