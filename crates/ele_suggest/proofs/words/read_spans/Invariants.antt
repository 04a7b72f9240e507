use Rattle.std.specs.Prelude.{◌≤◌, length, map}
use Rattle.std.specs.List.{AllZip}
use Rattle.ele_suggest.specs.Words.{SpellsSpan}
use Rattle.ele_suggest.proofs.words.read_spans.Given as goal

-- the parts so far are spans, and no more than can be asked for
abbrev pub invariant-loop-part : goal.invariant-loop-part
invariant-loop-part l = AllZip SpellsSpan (map (λ part. part.now) l.yielded) l.spans.items × (length l.spans.items ≤ 8)
