use Rattle.std.specs.Prelude.{◌≡◌, ◌++◌, ℕ, drop}
use Rattle.std.specs.List.{flat_map}
use Rattle.ele_suggest.specs.Candidates.{ladders_of, long_ladders, long_widths}
use Rattle.ele_suggest.proofs.ladders.add_long_ladders.Given as goal

-- the ladders of the widths so far, and of the others
abbrev pub invariant-loop-long : goal.invariant-loop-long
invariant-loop-long l = l.policies.items ++ flat_map (λ (long : ℕ). ladders_of l.spans (record { short = l.short; long = long })) (drop l.long-index long_widths) ≡ l.fn.policies.items ++ long_ladders l.spans l.short
