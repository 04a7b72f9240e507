-- Which events take no memory, so that they are never stopped for want of it.
use Rattle.std.specs.Prelude.{Bool, true, false}
use Rattle.ele_model.specs.declared.event.Event.{Event}
use Rattle.ele_model.specs.declared.event.Event.TheVariants.{Clock, Tick, RemoveDir, Abandon, SetDefault, CleanOne, Note}

abbrev pub takes_no_memory : Event → Bool
takes_no_memory (Clock to) = true
takes_no_memory (Tick seconds) = true
takes_no_memory (RemoveDir path) = true
takes_no_memory (Abandon handle) = true
takes_no_memory (SetDefault path policy) = true
takes_no_memory CleanOne = true
takes_no_memory (Note bytes) = true
takes_no_memory event = false
