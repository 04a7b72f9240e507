-- What a file keeps after an event and after each call of a journal, and what is recovered from it.
use Rattle.std.specs.Prelude.{◌≡◌, ℕ, true, List, [], ◌++◌, length, take, is_some, Option, Ok}
use Rattle.ele_journal.specs.Changes.{change_text}
use Rattle.ele_journal.specs.Journal.{first_check, start}
use Rattle.ele_journal.specs.Recovered.{IsAll, IsRecovered}
use Rattle.ele_journal.specs.declared.recovery.Recovered.{Recovered}
use Rattle.ele_journaled.specs.JournalState.{JournalState, extending, idle, answering, replacing, settling}
use Rattle.ele_journaled.specs.Keeps.{IsSound, Keeps, StaysKept, WillKeep, world_after}
use Rattle.ele_journaled.specs.declared.offer.Offer.{Offer}
use Rattle.ele_model.specs.Start.{IsStart}
use Rattle.ele_model.specs.Step.{step}
use Rattle.ele_model.specs.World.{World}
use Rattle.ele_model.specs.declared.event.Event.{Event}

-- all bytes are recovered, as the world and the check of the store that wrote them
pub record IsSame (bytes : List ℕ) (w : World) (state : JournalState) (r : Recovered) : Type 0 where
  pub world : world_after r.flat r.changes ≡ w
  pub check : r.check ≡ state.check
  pub all : r.whole ≡ length bytes

pub record FilesStay : Type 0 where
  -- the bytes of a new file keep the world
  pub begun : (w : World) → IsStart w → Keeps (start w) w (idle (first_check w))
  -- after an event a file keeps the world of the step
  pub answered : (w : World) (state : JournalState) (event : Event) → IsSound state.change state.offer
      → StaysKept w state ((step w event).1) (answering state event ((step w event).0))
  -- whatever bytes were given, until they are on the disk the file is the one that was
  pub asked : (file : List ℕ) (w : World) (state : JournalState) (offer : Option Offer) → Keeps file w state → Keeps file w (record state { offer = offer })
  -- with the bytes of the change under way at its end, it is the one then; or the new file is
  pub appended : (file : List ℕ) (w : World) (state : JournalState) → Keeps file w state → WillKeep (file ++ change_text state.check state.change) w (extending state)
  pub replaced : (w : World) (state : JournalState) → IsStart w → WillKeep (start w) w (replacing w state)
  pub written : (file : List ℕ) (w : World) (state : JournalState) → is_some state.offer ≡ true → WillKeep file w state → Keeps file w (settling state)
  -- the bytes that something is recovered from keep it, with nothing under way
  pub recovered : (bytes : List ℕ) (r : Recovered) → IsRecovered bytes r → IsStart r.flat → Keeps (take r.whole bytes) (world_after r.flat r.changes) (idle r.check)
  -- of a file that keeps a world with nothing under way it is that world, so that each event is answered alike
  pub same : (bytes : List ℕ) (w : World) (state : JournalState) (r : Recovered) (k : Keeps bytes w state) → state.change ≡ [] → IsRecovered bytes r
      → IsAll k.base k.changes (Ok r) → IsSame bytes w state r
