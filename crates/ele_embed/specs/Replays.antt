-- A store that is made of the bytes of its file.
use Rattle.std.specs.Prelude.{◌≡◌, ℕ, ◌<◌, ◌≤◌, Bool, true, false, List, [], ◌∷◌, ◌++◌, length, take, drop, Option, None}
use Rattle.ele_embed.specs.Embedding.{Embedding, State, Plain, Recorded, Journaled, opened}
use Rattle.ele_embed.specs.declared.opening.OpenJournalError.{OpenJournalError}
use Rattle.ele_embed.specs.declared.opening.OpenJournalError.TheVariants as errors
use Rattle.ele_history.specs.Past.{begun_from}
use Rattle.ele_journal.specs.Changes.{last_check}
use Rattle.ele_journal.specs.Journal.{first_check, journal, start}
use Rattle.ele_journal.specs.Recovered.{IsCutAt, IsEnd, IsUnread}
use Rattle.ele_journal.specs.declared.fault.Fault.{Fault}
use Rattle.ele_journal.specs.declared.fault.RecoverError.{RecoverError}
use Rattle.ele_journal.specs.declared.fault.RecoverError.TheVariants as recover_errors
use Rattle.ele_journaled.specs.JournalState.{idle}
pub use Rattle.ele_keeper.specs.Replays.{after_changes, after_event, after_events}
use Rattle.ele_model.specs.Start.{IsStart}
use Rattle.ele_model.specs.World.{World}
use Rattle.ele_model.specs.declared.event.Event.{Event}
use Rattle.ele_model.specs.declared.refusal.Stop.TheVariants.{HistoryFull, NoMemory}
use Rattle.ele_well_formed.specs.Fault.{HasFault}
use Rattle.ele_well_formed.specs.declared.fault.FlatFault.{FlatFault}

-- the state that begins in the world, with a history or without. A history has one folded entry
abbrev pub begun_state : Bool → World → State
begun_state true base = Recorded (begun_from base 1)
begun_state false base = Plain base None

-- the store of a file: it begins in the base, the changes are made, and nothing is under way
abbrev pub store_of_file : Bool → World → List (List Event) → Embedding
store_of_file history base changes =
    opened (Journaled (after_changes (begun_state history base) changes) (idle (last_check (first_check base) changes)))

-- so many bytes are the journal of a base that a run may begin in and of changes, the store is that of this file, and what follows these bytes
pub record IsOpenedStore (bytes : List ℕ) (history : Bool) (store : Embedding) (whole : ℕ) (fault : Option Fault) : Type 0 where
  pub base : World
  pub changes : List (List Event)
  pub begins : IsStart base
  pub front : take whole bytes ≡ journal base changes
  pub long : whole ≡ length (journal base changes)
  pub within : whole ≤ length bytes
  pub is : store ≡ store_of_file history base changes
  pub end : IsEnd (last_check (first_check base) changes) (drop whole bytes) fault

-- of the journal of a base and of changes: the store of exactly that file, with all its bytes
pub record IsWhole (base : World) (changes : List (List Event)) (history : Bool) (store : Embedding) (whole : ℕ) (fault : Option Fault) : Type 0 where
  pub is : store ≡ store_of_file history base changes
  pub all : whole ≡ length (journal base changes)
  pub faultless : fault ≡ None

-- of the journal of a base and of changes, cut to so many bytes: the store of exactly the changes that are whole
pub record IsCutFile (base : World) (changes : List (List Event)) (n : ℕ) (history : Bool) (store : Embedding) (whole : ℕ) (fault : Option Fault) : Type 0 where
  pub kept : List (List Event)
  pub others : List (List Event)
  pub front : kept ++ others ≡ changes
  pub no_more : (next : List Event) (last : List (List Event)) → others ≡ next ∷ last → n < length (journal base (kept ++ next ∷ []))
  pub is : store ≡ store_of_file history base kept
  pub long : whole ≡ length (journal base kept)
  pub rest : IsCutAt whole n fault

-- the checkpoint of rows that have a fault
pub record HasNoBase (bytes : List ℕ) (fault : FlatFault) : Type 0 where
  pub base : World
  pub after : List ℕ
  pub text : bytes ≡ start base ++ after
  pub wrong : HasFault base fault
  pub none : IsStart base → ⊥

-- why no store was made of the bytes: they end within the checkpoint, don't begin as a journal, have a damaged checkpoint, or one in whose
-- rows no run may begin; memory was refused; or the limits allow a history fewer entries
abbrev pub IsNotOpened : List ℕ → Bool → OpenJournalError → Type 0
IsNotOpened bytes history errors.Cut = IsUnread bytes recover_errors.Cut
IsNotOpened bytes history errors.Head = IsUnread bytes recover_errors.Head
IsNotOpened bytes history (errors.Damaged fault) = IsUnread bytes (recover_errors.Checkpoint fault)
IsNotOpened bytes history (errors.Fault fault) = HasNoBase bytes fault
IsNotOpened bytes history (errors.Stop NoMemory) = Unit {0}
IsNotOpened bytes history (errors.Stop HistoryFull) = history ≡ true

-- the error is a stop, which a store without a history has only for memory
abbrev pub IsStopped : Bool → OpenJournalError → Type 0
IsStopped history (errors.Stop NoMemory) = Unit {0}
IsStopped history (errors.Stop HistoryFull) = history ≡ true
IsStopped history error = ⊥

-- why no store begins in the rows: no run may; or it was stopped
abbrev pub IsNotBegunIn : World → Bool → OpenJournalError → Type 0
IsNotBegunIn flat history (errors.Fault fault) = HasFault flat fault × (IsStart flat → ⊥)
IsNotBegunIn flat history error = IsStopped history error

-- the error of bytes that nothing is recovered from
abbrev pub unread : RecoverError → OpenJournalError
unread recover_errors.NoMemory = errors.Stop NoMemory
unread recover_errors.Cut = errors.Cut
unread recover_errors.Head = errors.Head
unread (recover_errors.Checkpoint fault) = errors.Damaged fault
