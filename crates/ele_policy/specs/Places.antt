-- How a ladder is stored in its fields. No public clause cites this module.
use Rattle.std.specs.Prelude.{◌≡◌, ℕ, ◌-◌, ◌≤◌, List, ◌++◌, take, length, replicate}
use Rattle.std.proofs.Common.{ap, sym, subst, ◌∙◌}
use Rattle.std.proofs.lemmas.List.{length-take-le}
use Rattle.ele_policy.specs.Ladder.{Rung, IsLadder}
use Rattle.ele_policy.specs.declared.ladder.Ladder.TheInside.{Inside}

abbrev pub unused : ℕ → List Rung
unused n = replicate n (0, 0)

-- the first rungs, as many as the ladder has
abbrev pub rungs_of : Inside → List Rung
rungs_of ladder = take ladder.count ladder.rungs

-- the rungs, followed by unused places up to 8, and how many they are
abbrev pub fields_of : List Rung → Inside
fields_of rungs = record { rungs = rungs ++ unused (8 - length rungs); count = length rungs }

-- a ladder, followed by unused places
pub record IsFilled (ladder : Inside) : Type 0 where
  pub short : ladder.count ≤ 8
  pub whole : length ladder.rungs ≡ 8
  pub rest : ladder.rungs ≡ rungs_of ladder ++ unused (8 - ladder.count)
  pub climbs : IsLadder (rungs_of ladder)

-- the fields are those of the ladder's rungs
pub fields_of-rungs_of : (ladder : Inside) → IsFilled ladder → fields_of (rungs_of ladder) ≡ ladder
fields_of-rungs_of ladder filled =
    let IsWithin : ℕ → Type 0 = λ m. ladder.count ≤ m in
    let count = length-take-le ladder.count ladder.rungs (subst IsWithin (sym filled.whole) filled.short) in
    ap (λ (m : ℕ). let made : Inside = record { rungs = rungs_of ladder ++ unused (8 - m); count = m } in made) count
    ∙ ap (λ (r : List Rung). let made : Inside = record { rungs = r; count = ladder.count } in made) (sym filled.rest)
