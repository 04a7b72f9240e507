use Rattle.std.specs.Prelude.{map, take}
use Rattle.std.specs.List.{AllZip}
use Rattle.ele_invocation.specs.Forecasts.{AsksPolicy}
use Rattle.ele_invocation.proofs.reading.policies_in.Given as goal

-- those of the words so far
abbrev pub invariant-loop-word : goal.invariant-loop-word
invariant-loop-word l = AllZip AsksPolicy (map (λ word. word.now) (take l.word-index l.words)) l.policies.items
