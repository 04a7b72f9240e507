-- What keeps a world and answers its events: a history, or a core alone with the reply to its last event; either of them may have a journal.
use Rattle.std.specs.Prelude.{◌≡◌, ◌≢◌, ◌⊎◌, ℕ, zero, suc, ◌-◌, ◌<◌, Bool, true, false, List, [], length, Option, Some, None, slice_get}
use Rattle.std.specs.Option.{option_map}
use Rattle.ele_due.specs.declared.key.Key.{Key}
use Rattle.ele_history.specs.Pass.{MayPass}
use Rattle.ele_history.specs.Past.{Past, HasRoom, IsFull, recorded, trimmed, world_of}
use Rattle.ele_journal.specs.Events.{changes}
use Rattle.ele_journaled.specs.JournalState.{JournalState, answering}
use Rattle.ele_model.specs.Pass.{EndsPass}
use Rattle.ele_model.specs.Ready.{takes_no_memory}
use Rattle.ele_model.specs.Step.{step}
use Rattle.ele_model.specs.World.{World}
use Rattle.ele_model.specs.declared.entry.Entry.{Entry}
use Rattle.ele_model.specs.declared.event.Event.{Event}
use Rattle.ele_model.specs.declared.event.Event.TheVariants.{CleanOne}
use Rattle.ele_model.specs.declared.pass.PassEnd.{PassEnd}
use Rattle.ele_model.specs.declared.pass.PassEnd.TheVariants.{Finished, Budget, Stopped}
use Rattle.ele_model.specs.declared.refusal.Refusal.{Refusal}
use Rattle.ele_model.specs.declared.refusal.Stop.{Stop}
use Rattle.ele_model.specs.declared.refusal.Stop.TheVariants.{NoMemory, HistoryFull}
use Rattle.ele_model.specs.declared.reply.Reply.{Reply}
use Rattle.ele_model.specs.declared.reply.Reply.TheVariants.{Nothing, Refused, Removed}

-- a world with the reply to its last event, or a history; or one of these with its journal
pub data Kept : Type 0 where
  Plain : World → Option Reply → Kept
  Recorded : Past → Kept
  Journaled : Kept → JournalState → Kept

-- the same without its journal
abbrev pub bare : Kept → Kept
bare (Plain w last) = Plain w last
bare (Recorded past) = Recorded past
bare (Journaled kept journal) = bare kept

-- its journal, if there is one
abbrev pub journal_in : Kept → Option JournalState
journal_in (Plain w last) = None
journal_in (Recorded past) = None
journal_in (Journaled kept journal) = Some journal

-- the current world
abbrev pub world_in : Kept → World
world_in (Plain w last) = w
world_in (Recorded past) = world_of past
world_in (Journaled kept journal) = world_in kept

-- the history, if there is one
abbrev pub past_in : Kept → Option Past
past_in (Plain w last) = None
past_in (Recorded past) = Some past
past_in (Journaled kept journal) = past_in kept

-- its stored entries, and how many were folded
abbrev pub entries_in : Kept → List Entry
entries_in (Plain w last) = []
entries_in (Recorded past) = past.entries
entries_in (Journaled kept journal) = entries_in kept

abbrev pub folded_in : Kept → ℕ
folded_in (Plain w last) = 0
folded_in (Recorded past) = past.folded
folded_in (Journaled kept journal) = folded_in kept

-- the reply of the last entry
abbrev pub last_reply : Past → Option Reply
last_reply past = option_map (λ entry. entry.reply) (slice_get past.entries (length past.entries - 1))

-- the reply to the last event
abbrev pub last_in : Kept → Option Reply
last_in (Plain w last) = last
last_in (Recorded past) = last_reply past
last_in (Journaled kept journal) = last_in kept

-- whether there is one
abbrev pub has_past : Kept → Bool
has_past (Plain w last) = false
has_past (Recorded past) = true
has_past (Journaled kept journal) = has_past kept

-- ---- what an event, a pass and a trim leave

-- the history or the world is as it was, and so is the journal
abbrev pub Stays : Kept → Kept → Type 0
Stays (Plain w last) (Plain w' last') = w' ≡ w
Stays (Recorded past) (Recorded past') = past' ≡ past
Stays (Journaled kept journal) (Journaled kept' journal') = Stays kept kept' × (journal' ≡ journal)
Stays before after = ⊥

-- the step answered the event; in a history, which had room, both are the last entry; with a journal it is under way, if it counts
abbrev pub Answered : Kept → Event → Kept → Type 0
Answered (Plain w last) event (Plain w' last') = (reply : Reply) × (last' ≡ Some reply) × ((reply, w') ≡ step w event)
Answered (Recorded past) event (Recorded past') = HasRoom past × (past' ≡ recorded past event)
Answered (Journaled kept journal) event (Journaled kept' journal') = Answered kept event kept' × (journal' ≡ answering journal event ((step (world_in kept) event).0))
Answered before event after = ⊥

-- memory may stop an event only if the event takes some and the step doesn't refuse it
pub record TakesSome (w : World) (event : Event) : Type 0 where
  pub takes : takes_no_memory event ≡ false
  pub accepted : (refusal : Refusal) → (step w event).0 ≢ Refused refusal

-- why an event was stopped: its history is full; or memory was refused, which the entry in a history takes, and with a journal each event
-- but a question
abbrev pub StopsEvent : Kept → Event → Stop → Type 0
StopsEvent (Plain w last) event HistoryFull = ⊥
StopsEvent (Plain w last) event NoMemory = TakesSome w event
StopsEvent (Recorded past) event HistoryFull = IsFull past
StopsEvent (Recorded past) event NoMemory = HasRoom past
StopsEvent (Journaled kept journal) event HistoryFull = StopsEvent kept event HistoryFull
StopsEvent (Journaled kept journal) event NoMemory = StopsEvent kept event NoMemory ⊎ (changes event ≡ true)

-- a clean event was answered: it removed a version, or nothing is due
abbrev pub RemovesOne : Kept → Kept → Type 0
RemovesOne before after = (key : Key) × ((step (world_in before) CleanOne).0 ≡ Removed key) × Answered before CleanOne after

abbrev pub FindsNothing : Kept → Kept → Type 0
FindsNothing before after = ((step (world_in before) CleanOne).0 ≡ Nothing) × Answered before CleanOne after

-- so many clean events in a row, each of which removed a version
abbrev pub RemovesMany : Kept → ℕ → Kept → Type 0
RemovesMany before zero after = after ≡ before
RemovesMany before (suc n) after = (between : Kept) × RemovesMany before n between × RemovesOne between after

-- fewer of them than the budget, and then the next clean event
abbrev pub RemovesBelow : Kept → ℕ → ℕ → (Kept → Type 0) → Type 0
RemovesBelow before budget removed Next = (removed < budget) × ((between : Kept) × RemovesMany before removed between × Next between)

-- a pass of clean events in a row: nothing is due any more, the budget is used up, or a clean event is stopped
abbrev pub PassesInRow : Kept → ℕ → PassEnd → Kept → Type 0
PassesInRow before budget (Finished removed) after = RemovesBelow before budget removed (λ between. FindsNothing between after)
PassesInRow before budget (Budget removed) after = (removed ≡ budget) × RemovesMany before removed after
PassesInRow before budget (Stopped stop removed) after = RemovesBelow before budget removed (λ between. StopsEvent between CleanOne stop × Stays between after)

-- how a pass may end; without a history and a journal none is stopped. With a journal each clean event is under way
abbrev pub Passes : Kept → ℕ → PassEnd → Kept → Type 0
Passes (Plain w last) budget end (Plain w' last') = EndsPass w budget end w' × ((stop : Stop) (removed : ℕ) → end ≢ Stopped stop removed)
Passes (Recorded past) budget end (Recorded past') = MayPass past budget end past'
Passes (Journaled kept journal) budget end after = PassesInRow (Journaled kept journal) budget end after
Passes before budget end after = ⊥

-- the history was folded
abbrev pub Folds : Kept → ℕ → Kept → Type 0
Folds (Recorded past) count (Recorded past') = (count ≡ length past.entries) × (past' ≡ trimmed past)
Folds (Journaled kept journal) count (Journaled kept' journal') = Folds kept count kept' × (journal' ≡ journal)
Folds before count after = ⊥

-- a trim takes memory only if there is an entry
abbrev pub HasEntries : Kept → Type 0
HasEntries (Plain w last) = ⊥
HasEntries (Recorded past) = past.entries ≢ []
HasEntries (Journaled kept journal) = HasEntries kept
