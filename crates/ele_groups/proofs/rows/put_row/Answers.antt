use Rattle.ele_groups.proofs.Entered.{entered_rows, kept_entered}
use Rattle.ele_groups.proofs.rows.put_row.Goals as goal

pub returns-clause-kept : goal.returns-clause-kept
returns-clause-kept c =
    kept_entered _ _ c.requires.kept c.args.row.now c.requires.new _ _ (rw c.in_ok-from_row.ensures at c.in_ok-insert.ensures.entries) c.insert.ensures.unique
    (rw c.in_ok-from_row.ensures at c.in_ok-insert.ensures.updates.0) (rw c.as_slice.ensures at c.in_ok-enter.ensures)

pub returns-clause-rows : goal.returns-clause-rows
returns-clause-rows c = entered_rows _ _ c.requires.kept c.args.row.now c.requires.new _ (rw c.in_ok-from_row.ensures at c.in_ok-insert.ensures.entries)
