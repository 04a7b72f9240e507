use Rattle.std.specs.Prelude.{map}
use Rattle.std.specs.List.{AllZip}
use Rattle.ele_tool_words.specs.PolicyWord.{SpellsRung}
use Rattle.ele_tool_words.proofs.rungs.read_rungs.Given as goal

-- the parts so far are rungs
abbrev pub invariant-loop-part : goal.invariant-loop-part
invariant-loop-part l = AllZip SpellsRung (map (λ part. part.now) l.yielded) l.rungs.items
