use Rattle.ele_script.proofs.Basics.{Ok}
use Rattle.ele_script.specs.declared.reading.Line.TheVariants.{Event}
use Rattle.ele_script.proofs.Laws.{event_so, event_fault, event_refused}
use Rattle.ele_script.proofs.reading.read_event.Goals as goal

pub returns-clause-only : goal.returns-clause-only
returns-clause-only c = λ event h. rw c.event_in.ensures (event_so _ (Ok (Event event)) (c.read_line-asked.ensures.only (Event event) h))

pub returns-clause-fault : goal.returns-clause-fault
returns-clause-fault c = rw c.event_in.ensures (event_refused c.args.line.now c.read_line-asked.result c.read_line-asked.ensures.found c.read_line-asked.ensures.fault)

pub returns-clause-refused : goal.returns-clause-refused
returns-clause-refused c = rw c.event_in.ensures (event_fault c.args.line.now c.read_line-asked.result c.read_line-asked.ensures.only c.read_line-asked.ensures.refused)
