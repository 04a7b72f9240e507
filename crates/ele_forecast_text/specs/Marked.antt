-- Marks at the numbers of versions. No public clause cites this module.
use Rattle.std.specs.Prelude.{◌≡◌, ℕ, ◌<◌, ◌==◌, Bool, false, List, length}
use Rattle.std.specs.List.{list_any}
use Rattle.std.proofs.Common.{get_or}

-- the mark of each number says whether the number is in the list
abbrev pub IsMarked : List ℕ → List Bool → Type 0
IsMarked numbers marks = (number : ℕ) → number < length marks → get_or marks number false ≡ list_any (λ other. other == number) numbers
