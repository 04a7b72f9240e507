-- The newest row is the last.
use Rattle.std.proofs.Common.{◌≡◌, ◌-◌, List, length, slice_get}
use Rattle.ele_lists.specs.Ends.{last_of}
use Rattle.ele_lists.proofs.Ends.{last-slice_get}
use Rattle.ele_rule_parts.specs.declared.row.Row.{Row}

pub newest_is : (rows : List Row) → slice_get rows (length rows - 1) ≡ last_of rows
newest_is rows = last-slice_get rows
