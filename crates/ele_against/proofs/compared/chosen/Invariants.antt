use Rattle.std.specs.Prelude.{◌≡◌, take}
use Rattle.ele_against.specs.Names.{chosen_in}
use Rattle.ele_against.proofs.compared.chosen.Given as goal

-- those among the versions so far
abbrev pub invariant-loop-number : goal.invariant-loop-number
invariant-loop-number l = l.chosen.items ≡ chosen_in l.named l.names l.labels (take l.number-index l.numbers)
