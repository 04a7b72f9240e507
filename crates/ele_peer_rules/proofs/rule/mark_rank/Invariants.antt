use Rattle.std.proofs.Common.{◌≡◌, drop}
use Rattle.ele_peer_rules.specs.Kept.{after_rank}
use Rattle.ele_peer_rules.proofs.rule.mark_rank.Given as goal

-- the parts so far are marked, and the others are left
abbrev pub invariant-loop-part : goal.invariant-loop-part
invariant-loop-part l =
    after_rank l.ways l.since l.rank (drop l.part-index l.parts) l.rows l.marks ≡ after_rank l.ways l.since l.rank l.parts l.rows l.fn.marks
