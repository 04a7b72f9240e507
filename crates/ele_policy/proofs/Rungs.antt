-- Ladders in their fields, and what their levels share.
use Rattle.std.proofs.Common.{◌≡◌, ℕ, ◌≤◌, true, false, zero, suc, List, [], ◌∷◌, ◌++◌, drop, length, refl, arith}
use Rattle.std.specs.Prelude.{replicate, slice_get}
use Rattle.std.specs.Option.{option_map_or}
use Rattle.std.proofs.Math.Seq.{take-append_seam}
use Rattle.std.proofs.lemmas.List.{drop-replicate, length-replicate, length-append}
use Rattle.ele_policy.specs.Ladder.{Rung, IsLadder, climbs, ground, shares}
use Rattle.ele_policy.specs.Places.{IsFilled}
use Rattle.ele_policy.specs.SharesNest.{SharesNest}
use Rattle.ele_policy.proofs.Nesting.{climbed, nests}

-- a ladder that is written over the first of 8 unused places
pub filled : (rungs : List Rung) → IsLadder rungs → IsFilled (record { rungs = rungs ++ drop (length rungs) (replicate 8 (0, 0)); count = length rungs })
filled rungs is =
    let places = drop-replicate {X = Rung} (length rungs) 8 (0, 0) in
    let front = take-append_seam rungs (drop (length rungs) (replicate {A = Rung} 8 (0, 0))) in
    let short = is.short in
    record {
      short = short;
      whole = rw (length-append, places, length-replicate) (omega arith);
      rest = rw (front, places) refl;
      climbs = rw front is;
    }

-- two moments in one span of a rung are in one of each higher rung
shares_above : (low : Rung) (rungs : List Rung) (level a b : ℕ) → climbs low rungs ≡ true → shares a b low ≡ true → option_map_or (shares a a) (slice_get rungs level) false ≡ true → option_map_or (shares a b) (slice_get rungs level) false ≡ true
shares_above low (rung ∷ rungs) zero a b up here there = nests low rung a b (climbed low rung rungs up).0 here
shares_above low (rung ∷ rungs) (suc level) a b up here there = shares_above rung rungs level a b (climbed low rung rungs up).1 (nests low rung a b (climbed low rung rungs up).0 here) there
shares_above low _ level a b up here there = absurd cc

nest : (below : Rung) (rungs : List Rung) (low high a b : ℕ) → climbs below rungs ≡ true → low ≤ high → option_map_or (shares a a) (slice_get rungs high) false ≡ true → option_map_or (shares a b) (slice_get rungs low) false ≡ true → option_map_or (shares a b) (slice_get rungs high) false ≡ true
nest below [] low high a b up le there here = absurd cc
nest below (rung ∷ rungs) zero zero a b up le there here = here
nest below (rung ∷ rungs) zero (suc high) a b up le there here = shares_above rung rungs high a b (climbed below rung rungs up).1 here there
nest below (rung ∷ rungs) (suc low) zero a b up le there here = absurd (omega (arith, le))
nest below (rung ∷ rungs) (suc low) (suc high) a b up le there here = nest rung rungs low high a b (climbed below rung rungs up).1 (omega (arith, le)) there here

pub shares_nest : SharesNest
shares_nest rungs zero high a b is le there here = absurd cc
shares_nest rungs (suc low) zero a b is le there here = absurd cc
shares_nest rungs (suc low) (suc high) a b is le there here = nest ground rungs low high a b is.climbing (omega (arith, le)) there here
