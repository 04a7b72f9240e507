use Rattle.std.specs.Prelude.{map, take}
use Rattle.std.specs.List.{All}
use Rattle.ele_invocation.specs.Forecasts.{IsPlain}
use Rattle.ele_invocation.proofs.reading.is_named.Given as goal

-- a script spells a policy by each word so far
abbrev pub invariant-loop-word : goal.invariant-loop-word
invariant-loop-word l = All IsPlain (map (λ word. word.now) (take l.word-index l.words))
