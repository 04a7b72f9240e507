use Rattle.ele_path.proofs.Basics.{◌≡◌, ℕ, ◌<◌, ◌≤◌, eqb, false, length, get_or}
use Rattle.ele_path.proofs.names.name_start.Given as goal

-- no byte from there on is a slash
abbrev pub invariant-loop-start : goal.invariant-loop-start
invariant-loop-start l = (l.start ≤ length l.text) × ((place : ℕ) → l.start ≤ place → place < length l.text → eqb (get_or l.text place 0) 47 ≡ false)

abbrev pub decreases-loop-start : goal.decreases-loop-start
decreases-loop-start l = l.start
