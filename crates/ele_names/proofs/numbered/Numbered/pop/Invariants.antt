use Rattle.ele_names.proofs.Lemmas.{◌≡◌}
use Rattle.ele_names.proofs.numbered.Numbered.pop.Given as goal

abbrev pub invariant-loop-place : goal.invariant-loop-place
invariant-loop-place l = l.self.entries ≡ l.initial.self.entries

abbrev pub decreases-loop-place : goal.decreases-loop-place
decreases-loop-place l = l.self.made
