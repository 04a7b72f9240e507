use Rattle.ele_state.proofs.Words.{Abandon, Draft, Ok, Reply, World, ap, reads_by, ◌∙◌, ◌≡◌}
use Rattle.ele_state.proofs.ClosedSteps.{stood_reads}
use Rattle.ele_state.proofs.ClosedSums.{abandoned_answer}
use Rattle.ele_state.proofs.SoundAfter.{stepped}
use Rattle.ele_state.proofs.State.abandon.Goals as goal

pub leave-requires-clause-reads : goal.leave-requires-clause-reads
leave-requires-clause-reads c = rw (← c.requires.reads) (stood_reads c.self.inside.rows.files.handles c.args.handle.now (rw (← c.self.view_is) at c.requires.stands))

reads_draft : (c : goal.After-leave) → reads_by c.self.inside.rows.files.handles c.args.handle.now.row.number ≡ Ok (Draft c.args.file)
reads_draft c = rw (← c.requires.reads) (stood_reads c.self.inside.rows.files.handles c.args.handle.now (rw (← c.self.view_is) at c.requires.stands))

pub returns : goal.returns
returns c = rw (← c.self.view_is, c.leave.ensures.world) (abandoned_answer c.self.inside.rows c.args.handle.now.row.number c.args.file c.self.invariant.sound (reads_draft c))

pub invariant_of-self : goal.invariant_of-self
invariant_of-self c = stepped c.self.inside.rows _ c.self.view_is c.self.invariant (Abandon c.args.handle.now.row.number) tt c.leave.new.rows (c.leave.ensures.world ∙ ap (λ (answer : Reply × World). answer.1) (abandoned_answer c.self.inside.rows c.args.handle.now.row.number c.args.file c.self.invariant.sound (reads_draft c))) c.leave.ensures.tracked
