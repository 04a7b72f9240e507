-- What bytes of files are opened as.
use Rattle.std.proofs.Common.{◌≡◌, ℕ, ◌<◌, ◌≤◌, Bool, true, false, List, [], ◌∷◌, ◌++◌, length, take, drop, Option, Some, None, Result, Ok, Err, refl, sym, ap, subst, ◌∙◌, append_assoc}
use Rattle.std.proofs.lemmas.List.{take-append-drop}
use Rattle.std.specs.Prelude.{MatchResult}
use Rattle.ele_embed.specs.Embedding.{Embedding, Journaled, opened}
use Rattle.ele_embed.specs.Replays.{IsCutFile, IsNotBegunIn, IsNotOpened, IsOpenedStore, IsStopped, IsWhole, after_changes, begun_state, store_of_file, unread}
use Rattle.ele_embed.specs.declared.opening.OpenJournalError.{OpenJournalError}
use Rattle.ele_embed.specs.declared.opening.OpenJournalError.TheVariants as errors
use Rattle.ele_journal.specs.Changes.{changes_text, last_check}
use Rattle.ele_journal.specs.Journal.{first_check, journal, start}
use Rattle.ele_journal.specs.Recovered.{IsAll, IsCutWithin, IsEnd, IsKept, IsRecovered, IsShort, IsUnread}
use Rattle.ele_journal.specs.declared.fault.Fault.{Fault}
use Rattle.ele_journal.specs.declared.fault.RecoverError.{RecoverError}
use Rattle.ele_journal.specs.declared.fault.RecoverError.TheVariants as recover_errors
use Rattle.ele_journal.specs.declared.recovery.Recovered.{Recovered}
use Rattle.ele_journaled.specs.JournalState.{idle}
use Rattle.ele_model.specs.Start.{IsStart}
use Rattle.ele_model.specs.World.{World}
use Rattle.ele_model.specs.declared.event.Event.{Event}
use Rattle.ele_model.specs.declared.refusal.Stop.TheVariants.{HistoryFull, NoMemory}

-- ---- nothing was recovered

pub why_unread : (bytes : List ℕ) (history : Bool) (error : RecoverError) → IsUnread bytes error → IsNotOpened bytes history (unread error)
why_unread bytes history recover_errors.NoMemory is = tt
why_unread bytes history recover_errors.Cut is = is
why_unread bytes history recover_errors.Head is = is
why_unread bytes history (recover_errors.Checkpoint fault) is = is

pub stopped_unread : (base : World) (changes : List (List Event)) (history : Bool) (error : RecoverError) → IsAll base changes (Err error) → IsStopped history (unread error)
stopped_unread base changes history recover_errors.NoMemory is = tt
stopped_unread base changes history recover_errors.Cut is = absurd is
stopped_unread base changes history recover_errors.Head is = absurd is
stopped_unread base changes history (recover_errors.Checkpoint fault) is = absurd is

pub stopped_cut : (base : World) (changes : List (List Event)) (n : ℕ) (history : Bool) (error : RecoverError) → IsCutWithin base changes n (Err error) → IsStopped history (unread error)
stopped_cut base changes n history recover_errors.NoMemory is = tt
stopped_cut base changes n history recover_errors.Cut is = absurd is
stopped_cut base changes n history recover_errors.Head is = absurd is
stopped_cut base changes n history (recover_errors.Checkpoint fault) is = absurd is

pub short_unread : (error : RecoverError) → IsShort (Err error) → unread error ≡ errors.Cut
short_unread error is = ap unread is

-- ---- no store begins in what was recovered

pub why_not_begun : (bytes : List ℕ) (history : Bool) (r : Recovered) (error : OpenJournalError) → IsRecovered bytes r → IsNotBegunIn r.flat history error → IsNotOpened bytes history error
why_not_begun bytes history r errors.Cut i is = absurd is
why_not_begun bytes history r errors.Head i is = absurd is
why_not_begun bytes history r (errors.Damaged fault) i is = absurd is
why_not_begun bytes history r (errors.Stop NoMemory) i is = tt
why_not_begun bytes history r (errors.Stop HistoryFull) i is = is
why_not_begun bytes history r (errors.Fault fault) i is =
    let text = changes_text (first_check r.flat) r.changes in
    record {
      base = r.flat;
      after = text ++ drop r.whole bytes;
      text = sym (take-append-drop r.whole bytes) ∙ ap (λ (t : List ℕ). t ++ drop r.whole bytes) i.front ∙ append_assoc (start r.flat) text (drop r.whole bytes);
      wrong = is.0;
      none = is.1;
    }

pub stopped_begun : (flat base : World) (history : Bool) (error : OpenJournalError) → flat ≡ base → IsStart base → IsNotBegunIn flat history error → IsStopped history error
stopped_begun flat base history errors.Cut e begins is = absurd is
stopped_begun flat base history errors.Head e begins is = absurd is
stopped_begun flat base history (errors.Damaged fault) e begins is = absurd is
stopped_begun flat base history (errors.Stop NoMemory) e begins is = tt
stopped_begun flat base history (errors.Stop HistoryFull) e begins is = is
stopped_begun flat base history (errors.Fault fault) e begins is = absurd (is.1 (subst IsStart (sym e) begins))

-- ---- a store was opened

store_is : (history : Bool) (flat : World) (changes : List (List Event)) (check : List ℕ) → check ≡ last_check (first_check flat) changes
    → opened (Journaled (after_changes (begun_state history flat) changes) (idle check)) ≡ store_of_file history flat changes
store_is history flat changes check is = ap (λ (c : List ℕ). opened (Journaled (after_changes (begun_state history flat) changes) (idle c))) is

pub is_opened_store : (bytes : List ℕ) (history : Bool) (r : Recovered) (store : Embedding) → IsRecovered bytes r → IsStart r.flat
    → store ≡ opened (Journaled (after_changes (begun_state history r.flat) r.changes) (idle r.check)) → IsOpenedStore bytes history store r.whole r.fault
is_opened_store bytes history r store i begins is = record {
  base = r.flat;
  changes = r.changes;
  begins = begins;
  front = i.front;
  long = i.whole;
  within = i.within;
  is = is ∙ store_is history r.flat r.changes r.check i.check;
  end = subst (λ (c : List ℕ). IsEnd c (drop r.whole bytes) r.fault) i.check i.end;
}

same_file : (history : Bool) (flat base : World) (changes others : List (List Event)) → flat ≡ base → changes ≡ others → store_of_file history flat changes ≡ store_of_file history base others
same_file history flat base changes others e f = ap (λ (w : World). store_of_file history w changes) e ∙ ap (store_of_file history base) f

pub is_whole : (bytes : List ℕ) (history : Bool) (r : Recovered) (store : Embedding) (base : World) (changes : List (List Event)) → IsRecovered bytes r
    → store ≡ opened (Journaled (after_changes (begun_state history r.flat) r.changes) (idle r.check)) → IsAll base changes (Ok r) → IsWhole base changes history store r.whole r.fault
is_whole bytes history r store base changes i is all = record {
  is = is ∙ store_is history r.flat r.changes r.check i.check ∙ same_file history r.flat base r.changes changes all.0 all.1;
  all = i.whole ∙ ap (λ (w : World). length (journal w r.changes)) all.0 ∙ ap (λ (cs : List (List Event)). length (journal base cs)) all.1;
  faultless = all.2;
}

pub is_cut_file : (bytes : List ℕ) (history : Bool) (r : Recovered) (store : Embedding) (base : World) (changes : List (List Event)) (n : ℕ) → IsRecovered bytes r
    → store ≡ opened (Journaled (after_changes (begun_state history r.flat) r.changes) (idle r.check)) → IsKept base changes n r → IsCutFile base changes n history store r.whole r.fault
is_cut_file bytes history r store base changes n i is k = record {
  kept = r.changes;
  others = k.others;
  front = k.front;
  no_more = k.no_more;
  is = is ∙ store_is history r.flat r.changes r.check i.check ∙ same_file history r.flat base r.changes r.changes k.world refl;
  long = i.whole ∙ ap (λ (w : World). length (journal w r.changes)) k.world;
  rest = k.rest;
}
