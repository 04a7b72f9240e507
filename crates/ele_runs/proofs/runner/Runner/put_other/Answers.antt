use Rattle.ele_runs.proofs.Blocks.{block_put}
use Rattle.ele_runs.proofs.runner.Runner.put_other.Goals as goal

pub returns : goal.returns
returns g c =
    block_put _ _ _ _ c.hear-said.result _ _ _ _ _ c.self.view_is c.requires.goes_on c.hear-said.ensures c.tell_reason.ensures c.put_front.ensures (rw (c.last_reply.ensures, c.folded.ensures, c.entries.ensures.value) at c.put.ensures)
