-- What files keep, and what is recovered from them.
use Rattle.std.proofs.Common.{◌≡◌, ℕ, List, [], length, take, Ok, refl, sym, ap, ◌∙◌}
use Rattle.ele_model.specs.declared.event.Event.{Event}
use Rattle.ele_model.specs.Run.{run_of}
use Rattle.ele_model.specs.Start.{IsStart}
use Rattle.ele_model.specs.World.{World}
use Rattle.ele_journal.specs.Changes.{last_check}
use Rattle.ele_journal.specs.Journal.{first_check, journal}
use Rattle.ele_journal.specs.Recovered.{IsAll, IsRecovered}
use Rattle.ele_journal.specs.declared.recovery.Recovered.{Recovered}
use Rattle.ele_journaled.specs.FilesStay.{FilesStay, IsSame}
use Rattle.ele_journaled.specs.JournalState.{JournalState, idle}
use Rattle.ele_journaled.specs.Keeps.{Keeps, world_after}
use Rattle.ele_journaled.proofs.Kept.{keeps_begun, keeps_offer, keeps_written, stays, will_append, will_compact}

pub keeps_recovered : (bytes : List ℕ) (r : Recovered) → IsRecovered bytes r → IsStart r.flat → Keeps (take r.whole bytes) (world_after r.flat r.changes) (idle r.check)
keeps_recovered bytes r i begins = record { base = r.flat; changes = r.changes; begins = begins; text = i.front; check = i.check; world = refl }

-- the changes of a file lead to its world if nothing is under way
pub led_to : (base w : World) (changes : List (List Event)) (change : List Event) → change ≡ [] → w ≡ run_of (world_after base changes) change → world_after base changes ≡ w
led_to base w changes change none led = sym (led ∙ ap (run_of (world_after base changes)) none)

is_same : (bytes : List ℕ) (w : World) (state : JournalState) (r : Recovered) (k : Keeps bytes w state) → state.change ≡ [] → IsRecovered bytes r → IsAll k.base k.changes (Ok r) → IsSame bytes w state r
is_same bytes w state r k none i all = record {
  world = ap (λ (f : World). world_after f r.changes) all.0 ∙ ap (world_after k.base) all.1 ∙ led_to k.base w k.changes state.change none k.world;
  check = i.check ∙ ap (λ (f : World). last_check (first_check f) r.changes) all.0 ∙ ap (last_check (first_check k.base)) all.1 ∙ sym k.check;
  all = i.whole ∙ ap (λ (f : World). length (journal f r.changes)) all.0 ∙ ap (λ (cs : List (List Event)). length (journal k.base cs)) all.1 ∙ sym (ap length k.text);
}

pub files_stay : FilesStay
files_stay = record {
  begun = keeps_begun;
  answered = stays;
  asked = keeps_offer;
  appended = will_append;
  replaced = will_compact;
  written = keeps_written;
  recovered = keeps_recovered;
  same = is_same;
}
