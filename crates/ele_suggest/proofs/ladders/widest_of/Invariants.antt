use Rattle.std.specs.Prelude.{◌≡◌, drop}
use Rattle.ele_suggest.specs.Candidates.{narrowest, widest_from}
use Rattle.ele_suggest.proofs.ladders.widest_of.Given as goal

-- the widest of the spans so far and of the others
abbrev pub invariant-loop-span : goal.invariant-loop-span
invariant-loop-span l = widest_from l.widest (drop l.span-index l.spans) ≡ widest_from narrowest l.spans
