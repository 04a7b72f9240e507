-- A file that keeps a store keeps it after each call.
use Rattle.std.specs.Prelude.{◌≡◌, ℕ, true, List, [], ◌++◌, length, take, Bool, Option, Some, None, Result}
use Rattle.ele_embed.specs.Embedding.{Embedding, State, Journaled, journal_in, world_in}
use Rattle.ele_embed.specs.Hears.{Hears}
use Rattle.ele_embed.specs.Journals.{IsSoundState, begun_journal, compacted_state, is_offered, pended_state, pending_text, settled_state}
use Rattle.ele_embed.specs.Replays.{IsOpenedStore, IsWhole}
use Rattle.ele_embed.specs.Takes.{Passes, Runs}
use Rattle.ele_journal.specs.Journal.{start}
use Rattle.ele_journal.specs.declared.fault.Fault.{Fault}
use Rattle.ele_journaled.specs.JournalState.{JournalState, idle}
use Rattle.ele_journaled.specs.Keeps.{Keeps, WillKeep}
use Rattle.ele_model.specs.Start.{IsStart}
use Rattle.ele_model.specs.declared.event.Event.{Event}
use Rattle.ele_model.specs.declared.pass.PassEnd.{PassEnd}
use Rattle.ele_printer.specs.declared.fault.LineFault.{LineFault}
use Rattle.ele_runs.specs.Kept.{Kept}
use Rattle.ele_runs.specs.Said.{Trims}
use Rattle.ele_runs.specs.declared.said.Said.{Said}

-- the file keeps the world and the journal of the state
abbrev pub FileKeeps : List ℕ → State → Type 0
FileKeeps file (Journaled kept journal) = Keeps file (world_in kept) journal
FileKeeps file state = ⊥

-- it will, once it is said that the bytes that were given last are on the disk
abbrev pub FileWillKeep : List ℕ → State → Type 0
FileWillKeep file (Journaled kept journal) = WillKeep file (world_in kept) journal
FileWillKeep file state = ⊥

-- each file that keeps the one state keeps the other, and each that will keep the one will keep the other
pub record Follows (before after : State) : Type 0 where
  pub kept : (file : List ℕ) → FileKeeps file before → FileKeeps file after
  pub offered : (file : List ℕ) → FileWillKeep file before → FileWillKeep file after

-- the store has that world and that check, with nothing under way, and is opened from all bytes
pub record IsSameStore (file : List ℕ) (kept : Kept) (journal : JournalState) (store : Embedding) (whole : ℕ) (fault : Option Fault) : Type 0 where
  pub world : world_in store.state ≡ world_in kept
  pub journal_is : journal_in store.state ≡ Some (idle journal.check)
  pub all : whole ≡ length file
  pub faultless : fault ≡ None

pub record FilesKeep : Type 0 where
  -- the bytes of a new file keep the store
  pub begun : (store : Embedding) → IsStart (world_in store.state) → FileKeeps (begun_journal store).answer (begun_journal store).state
  -- after an event, a line, a pass and a trim the file keeps the store
  pub ran : (before after : State) (asked : Result Event LineFault) (said : Said) → IsSoundState before → Runs before asked said after → Follows before after
  pub heard : (before after : State) (line : List ℕ) (said : Said) → IsSoundState before → Hears before line said after → Follows before after
  pub passed : (before after : State) (budget : ℕ) (end : PassEnd) → IsSoundState before → Passes before budget end after → Follows before after
  pub trimmed : (before after : State) (said : Said) → Trims before said after → Follows before after
  -- until bytes are on the disk, the file is the one that was; with the bytes of the change under way at its end, it is the one then
  pub asked : (file : List ℕ) (state : State) → FileKeeps file state → FileKeeps file (pended_state state)
  pub appended : (file : List ℕ) (state : State) → FileKeeps file state → FileWillKeep (file ++ pending_text state) (pended_state state)
  -- or the new file is
  pub old : (file : List ℕ) (state : State) → FileKeeps file state → FileKeeps file (compacted_state state)
  pub replaced : (state : State) → (journal_in state ≡ None → ⊥) → IsStart (world_in state) → FileWillKeep (start (world_in state)) (compacted_state state)
  pub written : (file : List ℕ) (state : State) → is_offered (journal_in state) ≡ true → FileWillKeep file state → FileKeeps file (settled_state state)
  -- and what a store is opened from keeps it
  pub opened : (bytes : List ℕ) (history : Bool) (store : Embedding) (whole : ℕ) (fault : Option Fault) → IsOpenedStore bytes history store whole fault
      → FileKeeps (take whole bytes) store.state
  -- of a file that keeps a store with nothing under way it is opened with the same world, so that it answers each event as that store does
  pub same : (file : List ℕ) (kept : Kept) (journal : JournalState) (keeps : Keeps file (world_in kept) journal) (history : Bool) (store : Embedding) (whole : ℕ) (fault : Option Fault)
      → journal.change ≡ [] → IsWhole keeps.base keeps.changes history store whole fault → IsSameStore file kept journal store whole fault
