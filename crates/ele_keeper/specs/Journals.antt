-- A state with a journal: what the calls for its file do.
use Rattle.std.specs.Prelude.{◌≡◌, ℕ, Bool, true, false, List, [], ◌∷◌, is_some, Option, Some, None}
use Rattle.ele_journal.specs.Changes.{change_text}
use Rattle.ele_journaled.specs.JournalState.{JournalState, extending, forgetting, replacing, settling}
use Rattle.ele_keeper.specs.declared.journal.JournalError.{JournalError}
use Rattle.ele_keeper.specs.declared.journal.JournalError.TheVariants.{NoJournal, HasJournal, NoMemory}
use Rattle.ele_model.specs.declared.event.Event.{Event}
use Rattle.ele_runs.specs.Kept.{Kept, Journaled, journal_in, world_in}

-- the bytes of a change under way, after that check: none if there is no event
abbrev pub pending_bytes : List ℕ → List Event → List ℕ
pending_bytes check [] = []
pending_bytes check (event ∷ events) = change_text check (event ∷ events)

-- what is remembered of them; of no event nothing
abbrev pub after_pending : JournalState → List Event → JournalState
after_pending journal [] = forgetting journal
after_pending journal (event ∷ events) = extending journal

-- the bytes of the change under way were given
abbrev pub pended_state : Kept → Kept
pended_state (Journaled kept journal) = Journaled kept (after_pending journal journal.change)
pended_state state = state

abbrev pub pending_text : Kept → List ℕ
pending_text (Journaled kept journal) = pending_bytes journal.check journal.change
pending_text state = []

-- the bytes of a new file were given
abbrev pub compacted_state : Kept → Kept
compacted_state (Journaled kept journal) = Journaled kept (replacing (world_in kept) journal)
compacted_state state = state

-- the bytes that were given last are on the disk
abbrev pub settled_state : Kept → Kept
settled_state (Journaled kept journal) = Journaled kept (settling journal)
settled_state state = state

-- whether bytes were given since the last ones were on the disk
abbrev pub is_offered : Option JournalState → Bool
is_offered None = false
is_offered (Some journal) = is_some journal.offer

-- why a journal isn't begun: there is one; or memory was refused
abbrev pub IsNotBegun : Kept → JournalError → Type 0
IsNotBegun state NoJournal = ⊥
IsNotBegun state HasJournal = is_some (journal_in state) ≡ true
IsNotBegun state NoMemory = Unit {0}

-- why bytes aren't given: there is no journal; or memory was refused
abbrev pub IsNotGiven : Kept → JournalError → Type 0
IsNotGiven state NoJournal = is_some (journal_in state) ≡ false
IsNotGiven state HasJournal = ⊥
IsNotGiven state NoMemory = Unit {0}
