use Rattle.std.specs.Prelude.{map, take}
use Rattle.std.specs.List.{AllZip}
use Rattle.ele_invocation.specs.Forecasts.{SpellsAt}
use Rattle.ele_invocation.proofs.reading.moments_in.Given as goal

-- those of the words so far
abbrev pub invariant-loop-word : goal.invariant-loop-word
invariant-loop-word l = AllZip (SpellsAt l.now) (map (λ word. word.now) (take l.word-index l.words)) l.moments.items
