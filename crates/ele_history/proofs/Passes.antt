-- Clean events in a row.
use Rattle.std.proofs.Common.{◌≡◌, ℕ, ◌+◌, suc, sym, subst, arith}
use Rattle.ele_history.specs.Pass.{Removes, RemovesOne}
use Rattle.ele_history.specs.Past.{Past}

-- one more is removed
pub removes_more : (before between after : Past) (n : ℕ) → Removes before n between → RemovesOne between after → Removes before (n + 1) after
removes_more before between after n removes one =
    let more : n + 1 ≡ suc n = omega arith in
    subst (λ (m : ℕ). Removes before m after) (sym more) (between, removes, one)
