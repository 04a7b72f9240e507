use Rattle.std.specs.Prelude.{◌≡◌, ◌≤◌, take}
use Rattle.ele_svg.specs.ComparedDrawing.{group_count}
use Rattle.ele_svg.proofs.compared.group_count.Given as goal

-- those of the versions so far
abbrev pub invariant-loop-number : goal.invariant-loop-number
invariant-loop-number l =
    (l.count ≡ group_count l.page l.forecasts l.fn.column (take l.number-index l.numbers)) × (l.count ≤ l.number-index)
