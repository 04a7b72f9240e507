use Rattle.ele_fates.proofs.Words.{◌≡◌, ◌||◌, ◌&&◌, not, drop, Key, comes, has_key}
use Rattle.ele_fates.proofs.keys.put_changed.Given as goal

-- what is to be there is what the rest brings, and what none of them is stays
abbrev pub invariant-loop-change : goal.invariant-loop-change
invariant-loop-change l = (k : Key) → ((comes l.changes k || has_key k l.initial.queue) ≡ (comes (drop l.change-index l.changes) k || has_key k l.queue))
    × ((not (comes l.changes k) && has_key k l.initial.queue) ≡ (not (comes l.changes k) && has_key k l.queue))
