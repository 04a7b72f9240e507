use Rattle.ele_state.proofs.Words.{◌≡◌, Key, comes, is_freed}
use Rattle.ele_state.proofs.policy.freed.Given as goal

abbrev pub invariant-loop-newer : goal.invariant-loop-newer
invariant-loop-newer l = (k : Key) → comes l.changes.items k ≡ is_freed l.rows.groups l.rows.files l.file l.head.policy l.rows.moment l.newer k
