use Rattle.ele_runs.proofs.Blocks.{event_put}
use Rattle.ele_runs.proofs.runner.Runner.put_event.Goals as goal

pub returns : goal.returns
returns g c = λ notes.
    event_put _ _ _ _ c.hear_event-stop.result notes _ _ _ c.self.view_is c.requires.goes_on c.hear_event-stop.ensures c.put_number_front.ensures (rw c.last_reply.ensures at c.put_event_answer.ensures)
