use Rattle.ele_fates.proofs.Words.{◌≡◌, ◌&&◌, not, drop, Key, comes, has_key}
use Rattle.ele_fates.proofs.keys.take_back.Given as goal

-- what is to be left is what the rest leaves
abbrev pub invariant-loop-change : goal.invariant-loop-change
invariant-loop-change l = (k : Key) → (not (comes l.changes k) && has_key k l.initial.queue) ≡ (not (comes (drop l.change-index l.changes) k) && has_key k l.queue)
