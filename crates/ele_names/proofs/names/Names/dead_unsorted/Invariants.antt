use Rattle.ele_names.proofs.Dead.{AreSettled}
use Rattle.ele_names.proofs.Lemmas.{last_dead}
use Rattle.ele_names.proofs.names.Names.dead_unsorted.Given as goal

abbrev pub invariant-loop-directory : goal.invariant-loop-directory
invariant-loop-directory l = AreSettled (λ k. last_dead l.self k.0 k.1) l.directory-iterator l.found.items
