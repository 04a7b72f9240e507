use Rattle.ele_shared_history.specs.Knowledge.{Looked, count_seen}
use Rattle.ele_words.proofs.Progress.{Telling}
use Rattle.ele_words.proofs.watched.tell_until.Given as goal

abbrev pub invariant-loop : goal.invariant-loop
invariant-loop g l =
    (goal.iterator-loop g).can_next l.iterator' × (goal.iterator-loop g).is_finite l.iterator'
    × Looked l.fn.seat l.seat
    × Telling (g.P.Write.contents l.fn.progress) (g.P.Write.contents l.progress) (count_seen l.seat)
