use Rattle.ele_state.proofs.Words.{Close}
use Rattle.ele_state.proofs.ClosedSteps.{stood_reads}
use Rattle.ele_state.proofs.SoundAfter.{stepped_or}
use Rattle.ele_state.proofs.State.close.Goals as goal

pub invariant_of-self : goal.invariant_of-self
invariant_of-self c = stepped_or c.self.inside.rows _ c.self.view_is c.self.invariant c.unwrite.result (Close c.args.handle.now.row.number) tt c.unwrite.new.rows c.unwrite.ensures.step c.unwrite.ensures.err c.unwrite.ensures.tracked

pub invariant_of-self-in-Version : goal.invariant_of-self-in-Version
invariant_of-self-in-Version c = stepped_or c.self.inside.rows _ c.self.view_is c.self.invariant c.unread.result (Close c.args.handle.now.row.number) tt c.unread.new.rows c.unread.ensures.step c.unread.ensures.err c.unread.ensures.tracked

pub unwrite-requires-clause-reads : goal.unwrite-requires-clause-reads
unwrite-requires-clause-reads c = rw (← c.in-Draft.is) (stood_reads c.self.inside.rows.files.handles c.args.handle.now (rw (← c.self.view_is) at c.requires))

pub unread-requires-clause-reads : goal.unread-requires-clause-reads
unread-requires-clause-reads c = rw (← c.in-Version.is) (stood_reads c.self.inside.rows.files.handles c.args.handle.now (rw (← c.self.view_is) at c.requires))
