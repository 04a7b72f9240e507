use Rattle.std.proofs.Common.{◌≡◌, ℕ, drop}
use Rattle.std.specs.List.{fold}
use Rattle.std.specs.Prelude.{max}
use Rattle.ele_forecast_text.specs.declared.staying.Staying.{Staying}
use Rattle.ele_svg_marks.specs.Places.{last_drawn}
use Rattle.ele_svg_marks.proofs.page.last_drawn.Given as goal

-- the others are left
abbrev pub invariant-loop-staying : goal.invariant-loop-staying
invariant-loop-staying l =
    fold (λ (last : ℕ) (staying : Staying). max last staying.at) l.last (drop l.staying-index l.stayings) ≡ last_drawn l.fn.first l.forecasts l.stayings
