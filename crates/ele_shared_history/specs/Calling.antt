-- What a seat knows after a call.
use Rattle.std.specs.Prelude.{◌≡◌, ℕ, ◌<◌, List, [], ◌∷◌, ◌++◌, true}
use Rattle.ele_model.specs.declared.event.Event.{Event}
use Rattle.ele_model.specs.declared.refusal.Stop.{Stop}
use Rattle.ele_model.specs.declared.refusal.Stop.TheVariants.{NoMemory, HistoryFull}
use Rattle.ele_model.specs.declared.reply.Reply.{Reply}
use Rattle.ele_shared_history.specs.declared.ledger.Call.{Call}
use Rattle.ele_shared_history.specs.declared.stop.TryStop.{TryStop}
use Rattle.ele_shared_history.specs.declared.stop.TryStop.TheVariants.{NoMemory as TryNoMemory, HistoryFull as TryHistoryFull, Busy}
use Rattle.ele_shared_history.specs.Knowledge.{Knowledge, count_seen}
use Rattle.ele_shared_history.specs.Running.{call, entry, has}

-- one call was made: the view goes on and ends with it, and so do the seat's own calls
pub record Called (before : Knowledge) (event : Event) (reply : Reply) (after : Knowledge) : Type 0 where
  pub by : ℕ
  pub between : List Call
  pub one_of : has after.numbers by ≡ true
  pub view : after.view ≡ (before.view ++ between) ++ call by (entry event reply) ∷ []
  pub own : after.own ≡ before.own ++ call by (entry event reply) ∷ []
  pub object : after.object ≡ before.object
  pub numbers : after.numbers ≡ before.numbers
  pub known : after.known ≡ before.known

-- as many events were published as the limits allow
abbrev pub SeesFull : Knowledge → Type 0
SeesFull k = count_seen k ≡ k.object.opening.base.limits.events

-- fewer events were published
abbrev pub SeesRoom : Knowledge → Type 0
SeesRoom k = count_seen k < k.object.opening.base.limits.events

-- what the seat knows if this stopped a call
abbrev pub StoppedBy : Stop → Knowledge → Type 0
StoppedBy NoMemory k = SeesRoom k
StoppedBy HistoryFull k = SeesFull k

-- the same for an attempt
abbrev pub TriedBy : TryStop → Knowledge → Type 0
TriedBy TryNoMemory k = SeesRoom k
TriedBy TryHistoryFull k = SeesFull k
TriedBy Busy k = Unit {0}
