-- What the calls of a journal do.
use Rattle.std.specs.Prelude.{◌≡◌, ◌≤◌, ◌⊎◌, ℕ, ℤ, pos, Bool, true, false, List, ◌++◌, length, is_some, Option, Some, None, if◌then◌else◌}
use Rattle.ele_c_values.specs.Codes.{journal_code, opening_code, rest_number}
use Rattle.ele_embed.specs.Embedding.{Embedding, State, journal_in}
use Rattle.ele_embed.specs.Journals.{is_offered, settled}
use Rattle.ele_embed.specs.Replays.{IsCutFile, IsNotOpened, IsOpenedStore, IsStopped, IsWhole}
use Rattle.ele_keeper.specs.declared.journal.JournalError.{JournalError}
use Rattle.ele_embed.specs.declared.opening.OpenJournalError.{OpenJournalError}
use Rattle.ele_journal.specs.Journal.{journal, start}
use Rattle.ele_journal.specs.declared.fault.Fault.{Fault}
use Rattle.ele_journaled.specs.JournalState.{JournalState}
use Rattle.ele_journaled.specs.Keeps.{AreGiven}
use Rattle.ele_model.specs.Start.{IsStart}
use Rattle.ele_model.specs.World.{World}
use Rattle.ele_model.specs.declared.event.Event.{Event}

-- ---- bytes for the file

-- the text was made, of a store that has a journal or of one that has none, and its length given
pub record MakesText (makes : Embedding → Embedding) (had : Bool) (before : Embedding) (code : ℤ) (after : Option Embedding) (old new : ℕ) : Type 0 where
  pub journal : is_some (journal_in before.state) ≡ had
  pub code_is : code ≡ pos 0
  pub made : after ≡ Some (makes before)
  pub given : new ≡ length (makes before).answer

-- or it wasn't, for this reason, and all stays
pub record MakesNone (Why : State → JournalError → Type 0) (before : Embedding) (code : ℤ) (after : Option Embedding) (old new : ℕ) : Type 0 where
  pub error : JournalError
  pub why : Why before.state error
  pub code_is : code ≡ pos (journal_code error)
  pub same : after ≡ Some before
  pub unwritten : new ≡ old

abbrev pub GivesText : (Embedding → Embedding) → Bool → (State → JournalError → Type 0) → Option Embedding → ℤ → Option Embedding → ℕ → ℕ → Type 0
GivesText makes had Why None code after old new = (code ≡ pos 64) × (after ≡ None) × (new ≡ old)
GivesText makes had Why (Some before) code after old new = MakesText makes had before code after old new ⊎ MakesNone Why before code after old new

-- ---- the bytes are on the disk

-- 74 without a journal; 68 if no bytes were given since the last ones were on the disk. Both leave the store
abbrev pub settled_code : Option JournalState → ℕ
settled_code journal = if is_some journal then (if is_offered journal then 0 else 68) else 74

abbrev pub Settles : Option Embedding → ℤ → Option Embedding → Type 0
Settles None code after = (code ≡ pos 64) × (after ≡ None)
Settles (Some before) code after = (code ≡ pos (settled_code (journal_in before.state))) × (after ≡ Some (settled before))

-- ---- a store of the bytes of a file

-- what the caller gets of them: how many keep the store, and what follows these
pub record Parts : Type 0 where
  pub whole : ℕ
  pub rest : ℕ

-- the first bytes are the file of the store. Of a journal that is whole, or that was cut after its checkpoint, it is that of exactly the
-- whole changes
pub record IsFileOf (bytes : List ℕ) (history : Bool) (store : Embedding) (whole : ℕ) (fault : Option Fault) : Type 0 where
  pub opened : IsOpenedStore bytes history store whole fault
  pub all : (base : World) (changes : List (List Event)) → IsStart base → AreGiven base changes → bytes ≡ journal base changes → IsWhole base changes history store whole fault
  pub cut : (base : World) (changes : List (List Event)) (more : List ℕ) → IsStart base → AreGiven base changes → bytes ++ more ≡ journal base changes
      → length (start base) ≤ length bytes → IsCutFile base changes (length bytes) history store whole fault

-- or no store is opened, for this reason; of such a journal only for a stop
pub record IsNoFile (bytes : List ℕ) (history : Bool) (error : OpenJournalError) : Type 0 where
  pub why : IsNotOpened bytes history error
  pub all : (base : World) (changes : List (List Event)) → IsStart base → AreGiven base changes → bytes ≡ journal base changes → IsStopped history error
  pub cut : (base : World) (changes : List (List Event)) (more : List ℕ) → IsStart base → AreGiven base changes → bytes ++ more ≡ journal base changes
      → length (start base) ≤ length bytes → IsStopped history error

pub record OpensFile (bytes : List ℕ) (history : Bool) (code : ℤ) (after : Option Embedding) (new : Parts) : Type 0 where
  pub store : Embedding
  pub fault : Option Fault
  pub file : IsFileOf bytes history store new.whole fault
  pub code_is : code ≡ pos 0
  pub made : after ≡ Some store
  pub rest : new.rest ≡ rest_number fault

pub record OpensNone (bytes : List ℕ) (history : Bool) (code : ℤ) (after : Option Embedding) (old new : Parts) : Type 0 where
  pub error : OpenJournalError
  pub none : IsNoFile bytes history error
  pub code_is : code ≡ pos (opening_code error)
  pub closed : after ≡ None
  pub unwritten : new ≡ old

-- 65 of an open handle, whatever the bytes are, which leaves it
abbrev pub OpensJournal : List ℕ → Bool → Option Embedding → ℤ → Option Embedding → Parts → Parts → Type 0
OpensJournal bytes history None code after old new = OpensFile bytes history code after new ⊎ OpensNone bytes history code after old new
OpensJournal bytes history (Some store) code after old new = (code ≡ pos 65) × (after ≡ Some store) × (new ≡ old)
