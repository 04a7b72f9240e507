use Rattle.std.proofs.Common.{ℕ, ◌≡◌, ◌<◌, ◌-◌}
use Rattle.std.specs.List.{fold, range_with_len}
use Rattle.std.specs.Prelude.{max}
use Rattle.ele_svg.specs.Strips.{count_in, most_in}
use Rattle.ele_svg.proofs.strip.most_in.Given as goal

-- the other columns are left
abbrev pub invariant-loop-column : goal.invariant-loop-column
invariant-loop-column l =
    (fold (λ (most column : ℕ). max most (count_in l.page l.fn.level column l.forecasts)) l.most (range_with_len l.column (187 - l.column)) ≡ most_in l.page l.fn.level l.forecasts) × (0 < l.most)
