-- The result of an event, and the history after it.
use Rattle.std.specs.Prelude.{◌≡◌, Result, Ok, Err}
use Rattle.ele_model.specs.declared.event.Event.{Event}
use Rattle.ele_model.specs.declared.reply.Reply.{Reply}
use Rattle.ele_model.specs.declared.refusal.Stop.{Stop}
use Rattle.ele_model.specs.declared.refusal.Stop.TheVariants.{NoMemory, HistoryFull}
use Rattle.ele_history.specs.Past.{Past, HasRoom, IsFull, recorded, answered}

-- a stop leaves the history: as many entries were made as the limit, or memory for the entry was refused
abbrev pub MayStop : Past → Stop → Past → Type 0
MayStop before HistoryFull after = IsFull before × (after ≡ before)
MayStop before NoMemory after = HasRoom before × (after ≡ before)

-- the reply is the step's if the limit isn't reached, or the event is stopped
abbrev pub MayReply : Past → Event → Result Reply Stop → Past → Type 0
MayReply before event (Ok reply) after = HasRoom before × ((reply, after) ≡ answered before event)
MayReply before event (Err stop) after = MayStop before stop after

-- the same, if only the entry has the reply
abbrev pub MayRecord : {A : Type 0} → Past → Event → Result A Stop → Past → Type 0
MayRecord before event (Ok done) after = HasRoom before × (after ≡ recorded before event)
MayRecord before event (Err stop) after = MayStop before stop after
