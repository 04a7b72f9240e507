-- A store with a journal: what the calls for its file do.
use Rattle.ele_embed.specs.Embedding.{Embedding, State, Journaled, world_in}
use Rattle.ele_journal.specs.Journal.{first_check, start}
use Rattle.ele_journaled.specs.JournalState.{idle}
use Rattle.ele_journaled.specs.Keeps.{IsSound}
pub use Rattle.ele_keeper.specs.Journals.{IsNotBegun, IsNotGiven, after_pending, compacted_state, is_offered, pended_state, pending_bytes, pending_text, settled_state}

-- a journal begins: nothing is under way, and the text is the bytes of a new file
abbrev pub begun_journal : Embedding → Embedding
begun_journal store = record store {
  state = Journaled store.state (idle (first_check (world_in store.state)));
  answer = start (world_in store.state);
}

-- the text is the bytes of the change under way
abbrev pub pended : Embedding → Embedding
pended store = record store { state = pended_state store.state; answer = pending_text store.state }

-- the text is the bytes of a new file
abbrev pub compacted : Embedding → Embedding
compacted store = record store { state = compacted_state store.state; answer = start (world_in store.state) }

-- the bytes that were given last are on the disk
abbrev pub settled : Embedding → Embedding
settled store = record store { state = settled_state store.state }

-- the change under way has no question, and it has the events of the bytes that were given last
abbrev pub IsSoundState : State → Type 0
IsSoundState (Journaled kept journal) = IsSound journal.change journal.offer
IsSoundState state = Unit {0}
