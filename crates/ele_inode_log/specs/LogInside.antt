-- The invariant of a log's field. No public clause cites this module.
use Rattle.ele_inode_log.specs.declared.log.InodeLog.TheInside.{Inside}
use Rattle.ele_inode_log.specs.Rows.{HeldRows, AreInOrder}

abbrev pub held_rows : Inside → HeldRows
held_rows log = record { rows = log.rows.rows; spare = log.rows.spare }

-- the rows are in order
abbrev pub IsKept : Inside → Type 0
IsKept log = AreInOrder log.rows.rows
