use Rattle.std.proofs.Common.{◌≡◌, ◌++◌, ◌≤◌, length, take, drop}
use Rattle.ele_lists.specs.Ends.{last_of}
use Rattle.ele_peer_rules.specs.Marks.{after_from, count}
use Rattle.ele_peer_rules.proofs.marking.mark_part.Given as goal

-- the rows from the place on are marked and counted
abbrev pub invariant-loop-at : goal.invariant-loop-at
invariant-loop-at l = record {
  marks : l.marks ≡ take l.at l.fn.marks ++ after_from l.ways l.since l.part (last_of (take l.at l.rows)) (drop l.at l.rows) (drop l.at l.fn.marks);
  counted : l.counted ≡ count l.ways l.part.span (last_of (take l.at l.rows)) (drop l.at l.rows) (drop l.at l.fn.marks);
  within : l.at ≤ length l.rows;
}
