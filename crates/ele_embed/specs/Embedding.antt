-- A store as a contract sees it.
use Rattle.std.specs.Prelude.{ℕ, List, [], Option, Some, None}
use Rattle.ele_history.specs.Past.{Past, count_of, fresh}
use Rattle.ele_model.specs.Bounds.{Bounds}
use Rattle.ele_model.specs.World.{fresh_world}
use Rattle.ele_model.specs.declared.reply.Reply.{Reply}
use Rattle.ele_runs.specs.declared.said.Said.{Said}
use Rattle.ele_runs.specs.declared.said.Said.TheVariants.{Nothing, Replied}
pub use Rattle.ele_runs.specs.Kept.{Kept, Plain, Recorded, Journaled, journal_in, last_in, past_in, world_in}

-- a world with the reply to the last event, or a history; or one of these with its journal
abbrev pub State : Type 0
State = Kept

-- a store, the answer to its last call, and its last text
pub record Embedding : Type 0 where
  pub state : State
  pub said : Said
  pub answer : List ℕ

-- a store that has answered nothing
abbrev pub opened : State → Embedding
opened state = record { state = state; said = Nothing; answer = [] }

-- a fresh store without a history, and one with it
abbrev pub fresh_plain : Bounds → Embedding
fresh_plain limits = opened (Plain (fresh_world limits) None)

abbrev pub fresh_recorded : Bounds → Embedding
fresh_recorded limits = opened (Recorded (fresh limits))

-- the reply, if an event was answered
abbrev pub reply_said : Said → State → Option Reply
reply_said Replied state = last_in state
reply_said said state = None

abbrev pub reply_of : Embedding → Option Reply
reply_of store = reply_said store.said store.state

-- how many events a history has, with those that are folded; without a history none are counted
abbrev pub events_in : Option Past → ℕ
events_in None = 0
events_in (Some past) = count_of past
