-- A run may go on in another: a world that a run may begin in is one after each event, and so is each world that events lead to.
use Rattle.ele_model.specs.declared.event.Event.{Event}
use Rattle.ele_model.specs.Reached.{IsReached}
use Rattle.ele_model.specs.Run.{IsEvent}
use Rattle.ele_model.specs.Start.{IsStart}
use Rattle.ele_model.specs.Step.{step}
use Rattle.ele_model.specs.World.{World}

abbrev pub StartStays : Type 0
StartStays = (w : World) (event : Event) → IsEvent event → IsStart w → IsStart ((step w event).1)

abbrev pub ReachedIsStart : Type 0
ReachedIsStart = (w : World) → IsReached w → IsStart w
