-- What contracts see of the journal of a store, apart from its world, and how it changes.
use Rattle.std.specs.Prelude.{◌≡◌, ◌≢◌, ℕ, Bool, true, false, ◌&&◌, not, List, [], ◌∷◌, ◌++◌, length, drop, Option, Some, None, if◌then◌else◌}
use Rattle.ele_model.specs.declared.event.Event.{Event}
use Rattle.ele_model.specs.declared.reply.Reply.{Reply}
use Rattle.ele_model.specs.declared.reply.Reply.TheVariants as replies
use Rattle.ele_model.specs.World.{World}
use Rattle.ele_journal.specs.Changes.{after_change, change_text}
use Rattle.ele_journal.specs.Events.{changes}
use Rattle.ele_journal.specs.Journal.{first_check}
use Rattle.ele_journaled.specs.declared.offer.Offer.{Offer}

-- a journal
pub record JournalState : Type 0 where
  -- the check at the end of its file
  pub check : List ℕ
  -- the events since then, which the file doesn't have: the change under way
  pub change : List Event
  -- of the bytes that were given last, and may be on the disk by now: the check at their end, and how many events of the change they have
  pub offer : Option Offer

-- the file ends with that check, and nothing is under way
abbrev pub idle : List ℕ → JournalState
idle check = record { check = check; change = []; offer = None }

-- ---- an event

-- the event was refused, or nothing was due
abbrev pub is_unchanged : Reply → Bool
is_unchanged (replies.Refused refusal) = true
is_unchanged replies.Nothing = true
is_unchanged reply = false

-- whether the event with this reply belongs into the journal: it is no question, and it wasn't refused or found nothing due. A note does,
-- which changes nothing, since a history keeps it
abbrev pub counts : Event → Reply → Bool
counts event reply = changes event && not (is_unchanged reply)

abbrev pub grown : List Event → Event → Reply → List Event
grown change event reply = if counts event reply then change ++ event ∷ [] else change

-- the event is under way
abbrev pub adding : JournalState → Event → JournalState
adding journal event = record journal { change = journal.change ++ event ∷ [] }

-- the event was answered by the reply, so it is under way if it counts
abbrev pub answering : JournalState → Event → Reply → JournalState
answering journal event reply = record journal { change = grown journal.change event reply }

-- ---- bytes

-- bytes were given that end with the check and have the whole change
abbrev pub offering : JournalState → List ℕ → JournalState
offering journal check = record journal { offer = Some (record { check = check; count = length journal.change }) }

-- those of the change under way
abbrev pub extending : JournalState → JournalState
extending journal = offering journal (after_change journal.check journal.change)

-- those of a new journal of the world
abbrev pub replacing : World → JournalState → JournalState
replacing world journal = offering journal (first_check world)

-- no bytes count any more
abbrev pub forgetting : JournalState → JournalState
forgetting journal = record journal { offer = None }

-- what is given of a change under way: nothing of none, and else its bytes
abbrev pub Extends : JournalState → Option (List ℕ) → JournalState → Type 0
Extends before None after = (before.change ≡ []) × (after ≡ forgetting before)
Extends before (Some bytes) after = (before.change ≢ []) × (bytes ≡ change_text before.check before.change) × (after ≡ extending before)

-- the bytes are on the disk: so many events are no longer under way
abbrev pub confirming : JournalState → Option Offer → JournalState
confirming journal None = journal
confirming journal (Some offer) = record { check = offer.check; change = drop offer.count journal.change; offer = None }

-- the bytes that were given last are on the disk, if any were
abbrev pub settling : JournalState → JournalState
settling journal = confirming journal journal.offer
