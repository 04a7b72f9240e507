-- A history, and how it grows and is trimmed.
use Rattle.std.specs.Prelude.{◌≡◌, ℕ, ◌+◌, ◌<◌, List, [], ◌∷◌, ◌++◌, length, map, max}
use Rattle.ele_model.specs.Bounds.{Bounds}
use Rattle.ele_model.specs.declared.entry.Entry.{Entry}
use Rattle.ele_model.specs.declared.event.Event.{Event}
use Rattle.ele_model.specs.declared.reply.Reply.{Reply}
use Rattle.ele_model.specs.Run.{run_of}
use Rattle.ele_model.specs.Step.{step}
use Rattle.ele_model.specs.World.{World, fresh_world}

-- the base world, how many entries were folded into it, and the entries since
pub record Past : Type 0 where
  pub base : World
  pub folded : ℕ
  pub entries : List Entry

abbrev pub events_of : List Entry → List Event
events_of entries = map (λ entry. entry.event) entries

-- the world after all entries
abbrev pub world_of : Past → World
world_of past = run_of past.base (events_of past.entries)

-- how many entries were ever made
abbrev pub count_of : Past → ℕ
count_of past = past.folded + length past.entries

-- fewer entries were made than the limit
abbrev pub HasRoom : Past → Type 0
HasRoom past = count_of past < past.base.limits.events

-- as many entries were made as the limit
abbrev pub IsFull : Past → Type 0
IsFull past = count_of past ≡ past.base.limits.events

-- the history before the first entry
abbrev pub fresh : Bounds → Past
fresh limits = record { base = fresh_world limits; folded = 0; entries = [] }

-- so many entries, but at least one, since a history without one begins in the fresh world
abbrev pub counted_from : ℕ → ℕ
counted_from folded = max folded 1

-- the history that begins in the world, after so many entries
abbrev pub begun_from : World → ℕ → Past
begun_from base folded = record { base = base; folded = counted_from folded; entries = [] }

-- the history with this entry after the others
abbrev pub extended : Past → Entry → Past
extended past entry = record past { entries = past.entries ++ entry ∷ [] }

-- the reply of the world's step
abbrev pub reply_to : Past → Event → Reply
reply_to past event = (step (world_of past) event).0

-- the history with this event and its reply after the others
abbrev pub recorded : Past → Event → Past
recorded past event = extended past (record { event = event; reply = reply_to past event })

-- the result of an event: the reply of the world's step, and the history with both after the others
abbrev pub answered : Past → Event → Reply × Past
answered past event = (reply_to past event, recorded past event)

-- the history whose entries are folded into the base; the world and the count stay
abbrev pub trimmed : Past → Past
trimmed past = record { base = world_of past; folded = count_of past; entries = [] }
