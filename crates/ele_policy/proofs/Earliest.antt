-- The earliest of the moments from a threshold on.
use Rattle.std.proofs.Common.{◌≡◌, ℕ, ◌+◌, ◌≤◌, ◌==◌, ◌&&◌, Bool, true, false, cond, List, [], ◌∷◌, Option, Some, None, refl, arith, min}
use Rattle.std.specs.Prelude.{nat_le, find, map}
use Rattle.std.specs.List.{list_any}
use Rattle.std.specs.Option.{option_map, option_map_or}
use Rattle.std.proofs.lemmas.Bool.Decides.{nat_tests}
use Rattle.ele_moment.specs.Last.{last_moment}
use Rattle.ele_policy.specs.Ladder.{Rung}
use Rattle.ele_policy.specs.Ripe.{earliest_of}
use Rattle.ele_policy.specs.Wait.{in_time}

abbrev more : (ℕ → Bool) → ℕ → Option ℕ → Option ℕ
more holds at rest = cond (nat_le at last_moment && holds at) (Some (option_map_or (min at) rest at)) rest

-- of moments at which nothing is due none is the earliest
pub never_due : (moments : List ℕ) → earliest_of (λ at. false) moments ≡ None
never_due [] = refl
never_due (at ∷ moments) = grind (arith, nat_tests, never_due moments)

-- tests that agree up to the last moment have one earliest moment
pub earliest_same : (d e : ℕ → Bool) → ((at : ℕ) → at ≤ last_moment → d at ≡ e at) → (moments : List ℕ) → earliest_of d moments ≡ earliest_of e moments
earliest_same d e same [] = refl
earliest_same d e same (at ∷ moments) = grind (arith, nat_tests, same at, earliest_same d e same moments)

-- none is before the threshold
not_before : (m : ℕ) (moments : List ℕ) → option_map_or (nat_le m) (earliest_of (nat_le m) moments) true ≡ true
not_before m [] = refl
not_before m (at ∷ moments) = grind (arith, nat_tests, not_before m moments)

too_late : (m : ℕ) (moments : List ℕ) → nat_le m last_moment ≡ false → earliest_of (nat_le m) moments ≡ None
too_late m [] late = refl
too_late m (at ∷ moments) late = grind (arith, nat_tests, too_late m moments late)

found : (m : ℕ) (moments : List ℕ) → nat_le m last_moment ≡ true → list_any (λ at. at == m) moments ≡ true → earliest_of (nat_le m) moments ≡ Some m
found m [] fits there = absurd cc
found m (at ∷ moments) fits there = grind (arith, nat_tests, not_before m moments, found m moments fits)

-- it is the threshold, if this is among them
pub earliest_from : (m : ℕ) (moments : List ℕ) → list_any (λ at. at == m) moments ≡ true → earliest_of (nat_le m) moments ≡ in_time m
earliest_from m moments there = grind (arith, nat_tests, found, too_late)

-- the moment of a rung that is found is among those of all
pub is_candidate : (test : Rung → Bool) (ended age : ℕ) (rungs : List Rung) → option_map (λ rung. rung.0) (find test rungs) ≡ Some age → list_any (λ at. at == ended + age) (map (λ rung. ended + rung.0) rungs) ≡ true
is_candidate test ended age [] is = absurd cc
is_candidate test ended age (rung ∷ rungs) is = grind (arith, nat_tests, is_candidate test ended age rungs)
