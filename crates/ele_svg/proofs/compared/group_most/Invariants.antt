use Rattle.std.proofs.Common.{ℕ, ◌≡◌, ◌<◌, ◌-◌}
use Rattle.std.specs.List.{fold, range_with_len}
use Rattle.std.specs.Prelude.{max}
use Rattle.ele_svg.specs.ComparedDrawing.{group_count, group_most}
use Rattle.ele_svg.proofs.compared.group_most.Given as goal

-- the other columns are left
abbrev pub invariant-loop-column : goal.invariant-loop-column
invariant-loop-column l =
    (fold (λ (most column : ℕ). max most (group_count l.page l.forecasts column l.numbers)) l.most (range_with_len l.column (187 - l.column)) ≡ group_most l.page l.forecasts l.numbers) × (0 < l.most)
