use Rattle.ele_groups.proofs.Basics.{◌≡◌, ℕ, ◌==◌, ◌&&◌, not, List, list_any, bytes_eq, take}
use Rattle.ele_groups.proofs.Words.{has}
use Rattle.ele_groups.proofs.memberships.Memberships.leave.Given as goal

abbrev pub invariant-loop-file : goal.invariant-loop-file
invariant-loop-file l = (q : ℕ) (n : List ℕ) → has l.self q n
    ≡ (has l.initial.self q n && not (bytes_eq l.name n && list_any (λ file. file == q) (take l.file-index l.files)))
