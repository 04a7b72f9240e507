use Rattle.std.specs.Prelude.{◌≡◌, ◌++◌, drop}
use Rattle.ele_suggest.specs.Candidates.{rungs_from}
use Rattle.ele_suggest.proofs.ladders.rungs_of.Given as goal

-- the rungs so far, and those of the other spans
abbrev pub invariant-loop-span : goal.invariant-loop-span
invariant-loop-span l = l.rungs.items ++ rungs_from l.widths l.age (drop l.span-index l.spans) ≡ rungs_from l.widths 1 l.spans
