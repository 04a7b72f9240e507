use Rattle.std.specs.Prelude.{◌≡◌, drop}
use Rattle.ele_suggest.specs.Asked.{rise_from}
use Rattle.ele_suggest.proofs.grain.ages_rise.Given as goal

-- whether all rise is whether the others do
abbrev pub invariant-loop-span : goal.invariant-loop-span
invariant-loop-span l = rise_from l.age (drop l.span-index l.spans) ≡ rise_from 0 l.spans
