use Rattle.std.specs.Prelude.{◌≡◌, ◌++◌, drop}
use Rattle.std.specs.List.{flat_map}
use Rattle.ele_suggest.specs.Candidates.{long_ladders, short_widths}
use Rattle.ele_suggest.proofs.ladders.add_ladders.Given as goal

-- the ladders of the widths so far, and of the others
abbrev pub invariant-loop-short : goal.invariant-loop-short
invariant-loop-short l = l.policies.items ++ flat_map (long_ladders l.spans) (drop l.short-index short_widths) ≡ l.fn.policies.items ++ flat_map (long_ladders l.spans) short_widths
