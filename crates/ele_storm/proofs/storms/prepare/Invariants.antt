use Rattle.std.proofs.Common.{◌≡◌, ◌+◌, ◌∷◌, [], length}
use Rattle.ele_model.specs.declared.event.Event.TheVariants.{SetDefault}
use Rattle.ele_storm.specs.Storm.{creates, storm_policy}
use Rattle.ele_storm.specs.Making.{Makes}
use Rattle.ele_storm.specs.Work.{SeesMore}
use Rattle.ele_storm.proofs.storms.prepare.Given as goal

abbrev pub invariant-loop-writer : goal.invariant-loop-writer
invariant-loop-writer g l =
    (length l.seat.own ≡ length l.fn.seat.own + 1 + l.writer) × Makes (λ handle. SetDefault [] storm_policy ∷ creates l.writer) l.fn.seat l.seat × SeesMore l.fn.seat l.seat
