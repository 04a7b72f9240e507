use Rattle.std.specs.Prelude.{◌≡◌, ◌++◌, ◌+◌, drop}
use Rattle.ele_against.specs.Compared.{unknown_from}
use Rattle.ele_against.proofs.compared.unknown_in.Given as goal

-- the lines so far, and those of the others
abbrev pub invariant-loop-place : goal.invariant-loop-place
invariant-loop-place l = l.lines.items ++ unknown_from l.labels (l.place + 1) (drop l.place l.others) ≡ unknown_from l.labels 1 l.others
