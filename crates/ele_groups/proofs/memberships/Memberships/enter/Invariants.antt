use Rattle.ele_groups.proofs.Basics.{◌≡◌, ℕ, ◌==◌, ◌&&◌, ◌||◌, List, list_any, bytes_eq, take}
use Rattle.ele_groups.proofs.Words.{has}
use Rattle.ele_groups.proofs.memberships.Memberships.enter.Given as goal

abbrev pub invariant-loop-file : goal.invariant-loop-file
invariant-loop-file l = (q : ℕ) (n : List ℕ) → has l.self q n
    ≡ (has l.initial.self q n || (bytes_eq l.membership.name n && list_any (λ file. file == q) (take l.file-index l.files)))
