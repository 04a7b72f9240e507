use Rattle.ele_script.proofs.Basics.{map}
use Rattle.ele_script.proofs.Prelude.{Keeps}
use Rattle.ele_script.proofs.pairs.read_pairs.Given as goal

-- the parts so far are pairs, and the first nine are kept
abbrev pub invariant-loop-part : goal.invariant-loop-part
invariant-loop-part l = Keeps (map (λ part. part.now) l.yielded) l.pairs.items
