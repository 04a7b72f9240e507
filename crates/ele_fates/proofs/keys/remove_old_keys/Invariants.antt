use Rattle.ele_fates.proofs.Words.{◌≡◌, ◌&&◌, not, drop, Key, goes, has_key}
use Rattle.ele_fates.proofs.keys.remove_old_keys.Given as goal

-- what is to be left is what the rest leaves
abbrev pub invariant-loop-change : goal.invariant-loop-change
invariant-loop-change l = (k : Key) → (not (goes l.changes k) && has_key k l.initial.queue) ≡ (not (goes (drop l.change-index l.changes) k) && has_key k l.queue)
