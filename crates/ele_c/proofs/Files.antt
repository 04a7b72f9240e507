-- Stores that are opened from the bytes of a file.
use Rattle.std.proofs.Common.{◌≡◌, ℕ, ◌≤◌, Bool, List, ◌++◌, length, Result, Ok, Err, subst}
use Rattle.std.specs.Prelude.{MatchResult}
use Rattle.ele_c.specs.Journals.{IsFileOf, IsNoFile}
use Rattle.ele_embed.specs.Replays.{IsCutFile, IsNotOpened, IsOpenedStore, IsStopped, IsWhole}
use Rattle.ele_embed.specs.declared.opening.OpenJournalError.{OpenJournalError}
use Rattle.ele_embed.specs.declared.opening.OpenJournalError.TheVariants as errors
use Rattle.ele_embed.specs.declared.opening.OpenedStore.{OpenedStore}
use Rattle.ele_journal.specs.Journal.{journal, start}
use Rattle.ele_journaled.specs.Keeps.{AreGiven}
use Rattle.ele_model.specs.Start.{IsStart}
use Rattle.ele_model.specs.World.{World}
use Rattle.ele_model.specs.declared.event.Event.{Event}
use Rattle.ele_model.specs.declared.refusal.Stop.TheVariants.{NoMemory}

abbrev Opened : Type 0
Opened = Result OpenedStore OpenJournalError

-- what is opened of a whole journal, and of one that was cut after its checkpoint
abbrev OfWhole : World → List (List Event) → Bool → Opened → Type 0
OfWhole base changes history r = MatchResult r (λ opened. IsWhole base changes history opened.store opened.whole opened.fault) (IsStopped history)

abbrev OfCut : World → List (List Event) → ℕ → Bool → Opened → Type 0
OfCut base changes n history r = MatchResult r (λ opened. IsCutFile base changes n history opened.store opened.whole opened.fault) (IsStopped history)

abbrev Wholes : List ℕ → Bool → Opened → Type 0
Wholes bytes history r = (base : World) (changes : List (List Event)) → IsStart base → AreGiven base changes → bytes ≡ journal base changes → OfWhole base changes history r

abbrev Cuts : List ℕ → Bool → Opened → Type 0
Cuts bytes history r = (base : World) (changes : List (List Event)) (more : List ℕ) → IsStart base → AreGiven base changes → bytes ++ more ≡ journal base changes
    → length (start base) ≤ length bytes → OfCut base changes (length bytes) history r

pub is_file : (bytes : List ℕ) (history : Bool) (r : Opened) (opened : OpenedStore) → r ≡ Ok opened → IsOpenedStore bytes history opened.store opened.whole opened.fault → Wholes bytes history r → Cuts bytes history r
    → IsFileOf bytes history opened.store opened.whole opened.fault
is_file bytes history r opened is found all cut = record {
  opened = found;
  all = λ base changes begins given text. subst (OfWhole base changes history) is (all base changes begins given text);
  cut = λ base changes more begins given text long. subst (OfCut base changes (length bytes) history) is (cut base changes more begins given text long);
}

pub is_no_file : (bytes : List ℕ) (history : Bool) (r : Opened) (error : OpenJournalError) → r ≡ Err error → IsNotOpened bytes history error → Wholes bytes history r → Cuts bytes history r → IsNoFile bytes history error
is_no_file bytes history r error is why all cut = record {
  why = why;
  all = λ base changes begins given text. subst (OfWhole base changes history) is (all base changes begins given text);
  cut = λ base changes more begins given text long. subst (OfCut base changes (length bytes) history) is (cut base changes more begins given text long);
}

-- memory may be refused for any bytes
pub lacks_memory : (bytes : List ℕ) (history : Bool) → IsNoFile bytes history (errors.Stop NoMemory)
lacks_memory bytes history = record { why = tt; all = λ base changes begins given text. tt; cut = λ base changes more begins given text long. tt }
