use Rattle.std.proofs.Common.{◌≡◌, length}
use Rattle.ele_peer_rules.specs.Kept.{after_ranks}
use Rattle.ele_peer_rules.proofs.rule.kept_by.Given as goal

-- the ranks so far are marked
abbrev pub invariant-loop-rank : goal.invariant-loop-rank
invariant-loop-rank l = record {
  marks : l.marks.items ≡ after_ranks l.ways l.since l.rank l.parts l.rows;
  same : length l.marks.items ≡ length l.rows;
}
