use Rattle.std.specs.Prelude.{◌≡◌, ◌++◌, drop}
use Rattle.ele_btrbk_rules.specs.Begun.{depths_from, none_begun}
use Rattle.ele_btrbk_rules.specs.Schedule.{kept_from}
use Rattle.ele_btrbk_rules.proofs.schedule.kept_by.Given as goal

-- what is kept of the rows so far, and of the others
abbrev pub invariant-loop-at : goal.invariant-loop-at
invariant-loop-at l =
    l.marks.items ++ kept_from l.begins l.parts l.present (drop l.at l.rows) (depths_from l.begins l.begun (drop l.at l.rows))
    ≡ kept_from l.begins l.parts l.present l.rows (depths_from l.begins none_begun l.rows)
