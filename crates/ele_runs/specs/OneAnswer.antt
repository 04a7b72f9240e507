-- From one state a line has one answer, unless memory stops it.
use Rattle.std.specs.Prelude.{◌≡◌, ℕ, false, List, Option}
use Rattle.ele_history.specs.Past.{Past}
use Rattle.ele_runs.specs.Kept.{Recorded}
use Rattle.ele_runs.specs.Said.{IsForMemory, MayAnswer}
use Rattle.ele_runs.specs.declared.said.Said.{Said}

-- two answers to a line from one history, neither of them stopped for memory, are the same and leave the same history
abbrev pub OneAnswer : Type 0
OneAnswer =
    (before : Past) (line : Option (List ℕ)) (a b : Said) (x y : Past)
    → MayAnswer false (Recorded before) line a (Recorded x) → MayAnswer false (Recorded before) line b (Recorded y)
    → ¬ IsForMemory a → ¬ IsForMemory b → (a ≡ b) × (x ≡ y)
