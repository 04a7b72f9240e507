use Rattle.std.specs.Prelude.{map}
use Rattle.ele_dialog.specs.Dates.{before_dates}
use Rattle.ele_dialog.specs.Walk.{AddsWords}
use Rattle.ele_dialog.proofs.dates.add_dates.Given as goal

-- the dates of the words so far
abbrev pub invariant-loop-word : goal.invariant-loop-word
invariant-loop-word l =
    AddsWords l.fn.columns before_dates (map (λ word. word.now) l.yielded) l.left l.front l.fn.shown.items l.shown.items
