-- Whether a version stays, by its own closing and the newer ones. No public clause cites this module.
use Rattle.std.specs.Prelude.{ℕ, ◌+◌, Bool, true, false, List, [], ◌∷◌, if◌then◌else◌}
use Rattle.ele_policy.specs.declared.policy.Policy.{Policy}
use Rattle.ele_policy.specs.Ripe.{is_due_by}

-- in a live file, the version ended as the first of the newer ones closed, and is due beside these
abbrev pub goes : Policy → ℕ → ℕ → List ℕ → Bool
goes policy at closed [] = false
goes policy at closed (ended ∷ later) = is_due_by policy closed (record { newer = ended ∷ later; live = true }) ended at

-- the numbers of the versions that stay, of versions numbered from there on
abbrev pub kept_from : Policy → ℕ → ℕ → List ℕ → List ℕ
kept_from policy at number [] = []
kept_from policy at number (closed ∷ later) =
    let rest = kept_from policy at (number + 1) later in if goes policy at closed later then rest else number ∷ rest
