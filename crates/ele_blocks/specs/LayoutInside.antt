-- The invariant of a block map's fields. No public clause cites this module.
use Rattle.std.specs.Prelude.{◌≡◌, ◌≤◌, length}
use Rattle.ele_content.specs.Content.{longest_content, slot_count}
use Rattle.ele_blocks.specs.Layout.{Layout}
use Rattle.ele_blocks.specs.LivesIn.{leaf_count}
use Rattle.ele_blocks.specs.declared.map.BlockMap.TheInside.{Inside}

abbrev pub layout_of : Inside → Layout
layout_of m = record { size = m.list.size; leaves = m.list.items }

-- there is a leaf for each 16 slots, and the content isn't too long
pub record IsLaidOut (m : Inside) : Type 0 where
  pub short : m.list.size ≤ longest_content
  pub leaves : length m.list.items ≡ leaf_count (slot_count m.list.size)
