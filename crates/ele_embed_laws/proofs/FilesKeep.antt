-- A file that keeps a store keeps it after each call.
use Rattle.std.proofs.Common.{◌≡◌, ℕ, ◌+◌, ◌<◌, zero, suc, Bool, true, false, List, [], ◌∷◌, ◌++◌, length, take, Option, Some, None, is_some, Result, Ok, Err, ◌⊎◌, inl, inr, refl, sym, ap, subst, ◌∙◌, arith}
use Rattle.std.specs.Prelude.{◌≢◌}
use Rattle.ele_embed.specs.Embedding.{Embedding, State}
use Rattle.ele_embed.specs.Hears.{Hears, explaining}
use Rattle.ele_embed.specs.Journals.{IsSoundState, after_pending, begun_journal, compacted_state, is_offered, pended_state, pending_bytes, pending_text, settled_state}
use Rattle.ele_embed.specs.Replays.{IsOpenedStore, IsWhole, after_changes, after_event, after_events, begun_state, store_of_file}
use Rattle.ele_embed.specs.Takes.{Runs}
use Rattle.ele_embed_laws.specs.FilesKeep.{FileKeeps, FilesKeep, FileWillKeep, Follows, IsSameStore}
use Rattle.ele_history.proofs.Growth.{world_of-extended}
use Rattle.ele_history.specs.Past.{Past, begun_from, recorded, reply_to, trimmed, world_of}
use Rattle.ele_journal.specs.Events.{changes}
use Rattle.ele_journal.specs.Changes.{change_text, last_check}
use Rattle.ele_journal.specs.Journal.{first_check, journal, start}
use Rattle.ele_journal.specs.declared.fault.Fault.{Fault}
use Rattle.ele_journaled.proofs.FilesStay.{led_to}
use Rattle.ele_journaled.proofs.Kept.{keeps_begun, keeps_offer, keeps_written, same, still_sound, stays, will_append, will_compact}
use Rattle.ele_journaled.specs.JournalState.{JournalState, extending, idle, answering}
use Rattle.ele_journaled.specs.Keeps.{IsSound, Keeps, StaysKept, WillKeep, world_after}
use Rattle.ele_journaled.specs.declared.offer.Offer.{Offer}
use Rattle.ele_model.specs.Run.{run_of}
use Rattle.ele_model.specs.Start.{IsStart}
use Rattle.ele_model.specs.Step.{step}
use Rattle.ele_model.specs.World.{World}
use Rattle.ele_model.specs.declared.entry.Entry.{Entry}
use Rattle.ele_model.specs.declared.event.Event.{Event}
use Rattle.ele_model.specs.declared.event.Event.TheVariants.{CleanOne}
use Rattle.ele_model.specs.declared.pass.PassEnd.{PassEnd}
use Rattle.ele_model.specs.declared.pass.PassEnd.TheVariants.{Finished, Budget, Stopped}
use Rattle.ele_model.specs.declared.refusal.Stop.{Stop}
use Rattle.ele_model.specs.declared.refusal.Stop.TheVariants as stops
use Rattle.ele_model.specs.declared.reply.Reply.{Reply}
use Rattle.ele_printer.specs.declared.fault.LineFault.{LineFault}
use Rattle.ele_runs.specs.Kept.{Kept, Plain, Recorded, Journaled, Answered, Folds, Passes, RemovesMany, Stays, journal_in, world_in}
use Rattle.ele_runs.specs.Said.{MayAnswer, MayMean, MaySay, Records, Trims}
use Rattle.ele_runs.specs.declared.said.Said.{Said}
use Rattle.ele_runs.specs.declared.said.Said.TheVariants as said

-- ---- worlds

stays_world : (before after : Kept) → Stays before after → world_in after ≡ world_in before
stays_world (Plain w last) (Plain w' last') is = is
stays_world (Recorded past) (Recorded past') is = ap world_of is
stays_world (Journaled kept journal) (Journaled kept' journal') is = stays_world kept kept' is.0
stays_world before after is = absurd is

answered_world : (before after : Kept) (event : Event) → Answered before event after → world_in after ≡ (step (world_in before) event).1
answered_world (Plain w last) (Plain w' last') event is = ap (λ (out : Reply × World). out.1) is.2
answered_world (Recorded past) (Recorded past') event is =
    ap world_of is.1 ∙ world_of-extended past (record { event = event; reply = reply_to past event })
answered_world (Journaled kept journal) (Journaled kept' journal') event is = answered_world kept kept' event is.0
answered_world before after event is = absurd is

folded_world : (before after : Kept) (count : ℕ) → Folds before count after → world_in after ≡ world_in before
folded_world (Recorded past) (Recorded past') count is = ap world_of is.1
folded_world (Journaled kept journal) (Journaled kept' journal') count is = folded_world kept kept' count is.0
folded_world before after count is = absurd is

-- ---- a state that stays

both_are : (w v x : World) (j k l : JournalState) → v ≡ x → k ≡ l → StaysKept w j x l → StaysKept w j v k
both_are w v x j k l e f stays = subst (λ (x : World). StaysKept w j x k) (sym e) (subst (StaysKept w j x) (sym f) stays)

on_stays : (w v : World) (j k : JournalState) → v ≡ w → k ≡ j → StaysKept w j v k
on_stays w v j k e f = both_are w v w j k j e f (same w j)

pub follows_same : (before after : Kept) → Stays before after → Follows before after
follows_same (Journaled kept journal) (Journaled kept' journal') is =
    let k = on_stays (world_in kept) (world_in kept') journal journal' (stays_world kept kept' is.0) is.1 in
    record { kept = k.kept; offered = k.offered }
follows_same (Plain w last) after is = record { kept = λ file never. absurd never; offered = λ file never. absurd never }
follows_same (Recorded past) after is = record { kept = λ file never. absurd never; offered = λ file never. absurd never }
follows_same (Journaled kept journal) (Plain w last) is = absurd is
follows_same (Journaled kept journal) (Recorded past) is = absurd is

-- ---- an event

on_answered : (w v : World) (j k : JournalState) (event : Event) → v ≡ (step w event).1 → k ≡ answering j event ((step w event).0) → IsSound j.change j.offer → StaysKept w j v k
on_answered w v j k event world journal sound = both_are w v ((step w event).1) j k (answering j event ((step w event).0)) world journal (stays w j event sound)

pub follows_answered : (before after : Kept) (event : Event) → IsSoundState before → Answered before event after → Follows before after
follows_answered (Journaled kept journal) (Journaled kept' journal') event sound is =
    let k = on_answered (world_in kept) (world_in kept') journal journal' event (answered_world kept kept' event is.0) is.1 sound in
    record { kept = k.kept; offered = k.offered }
follows_answered (Plain w last) after event sound is = record { kept = λ file never. absurd never; offered = λ file never. absurd never }
follows_answered (Recorded past) after event sound is = record { kept = λ file never. absurd never; offered = λ file never. absurd never }
follows_answered (Journaled kept journal) (Plain w last) event sound is = absurd is
follows_answered (Journaled kept journal) (Recorded past) event sound is = absurd is

sound_answered : (before after : Kept) (event : Event) → IsSoundState before → Answered before event after → IsSoundState after
sound_answered (Journaled kept journal) (Journaled kept' journal') event sound is =
    subst (λ (j : JournalState). IsSound j.change j.offer) (sym is.1) (still_sound journal.change journal.offer event ((step (world_in kept) event).0) sound)
sound_answered before (Plain w last) event sound is = tt
sound_answered before (Recorded past) event sound is = tt
sound_answered (Plain w last) (Journaled kept journal) event sound is = absurd is
sound_answered (Recorded past) (Journaled kept journal) event sound is = absurd is

then_follows : (a b c : Kept) → Follows a b → Follows b c → Follows a c
then_follows a b c f g = record { kept = λ file k. g.kept file (f.kept file k); offered = λ file k. g.offered file (f.offered file k) }

follows_self : (a : Kept) → Follows a a
follows_self a = record { kept = λ file k. k; offered = λ file k. k }

follows_recorded : (before after : Kept) (event : Event) (it : Said) → IsSoundState before → Records before event it after → Follows before after
follows_recorded before after event said.Replied sound is = follows_answered before after event sound is
follows_recorded before after event (said.Stopped stop) sound is = follows_same before after is.1
follows_recorded before after event it sound is = absurd is

pub ran : (before after : State) (asked : Result Event LineFault) (it : Said) → IsSoundState before → Runs before asked it after → Follows before after
ran before after (Ok event) it sound is = follows_recorded before after event it sound is
ran before after (Err fault) it sound is = subst (Follows before) (sym is.1) (follows_self before)

-- ---- a pass

many : (before : Kept) (n : ℕ) (after : Kept) → IsSoundState before → RemovesMany before n after → Follows before after × IsSoundState after
many before zero after sound is = subst (λ (k : Kept). Follows before k × IsSoundState k) (sym is) (follows_self before, sound)
many before (suc n) after sound is =
    let so_far = many before n is.0 sound is.1 in
    (then_follows before is.0 after so_far.0 (follows_answered is.0 after CleanOne so_far.1 is.2.2), sound_answered is.0 after CleanOne so_far.1 is.2.2)

pub passed : (before after : State) (budget : ℕ) (end : PassEnd) → IsSoundState before → Passes before budget end after → Follows before after
passed (Plain w last) after budget end sound is = record { kept = λ file never. absurd never; offered = λ file never. absurd never }
passed (Recorded past) after budget end sound is = record { kept = λ file never. absurd never; offered = λ file never. absurd never }
passed (Journaled kept journal) after budget (Finished removed) sound is =
    let before : Kept = Journaled kept journal in
    let so_far = many before removed is.1.0 sound is.1.1 in
    then_follows before is.1.0 after so_far.0 (follows_answered is.1.0 after CleanOne so_far.1 is.1.2.1)
passed (Journaled kept journal) after budget (Budget removed) sound is = (many (Journaled kept journal) removed after sound is.1).0
passed (Journaled kept journal) after budget (Stopped stop removed) sound is =
    let before : Kept = Journaled kept journal in
    let so_far = many before removed is.1.0 sound is.1.1 in
    then_follows before is.1.0 after so_far.0 (follows_same is.1.0 after is.1.2.1)

-- ---- a trim

follows_folded : (before after : Kept) (count : ℕ) → Folds before count after → Follows before after
follows_folded (Journaled kept journal) (Journaled kept' journal') count is =
    let k = on_stays (world_in kept) (world_in kept') journal journal' (folded_world kept kept' count is.0) is.1 in
    record { kept = k.kept; offered = k.offered }
follows_folded (Plain w last) after count is = record { kept = λ file never. absurd never; offered = λ file never. absurd never }
follows_folded (Recorded past) after count is = record { kept = λ file never. absurd never; offered = λ file never. absurd never }
follows_folded (Journaled kept journal) (Plain w last) count is = absurd is
follows_folded (Journaled kept journal) (Recorded past) count is = absurd is

pub trimmed_follows : (before after : State) (it : Said) → Trims before it after → Follows before after
trimmed_follows before after (said.Trimmed count) is = follows_folded before after count is
trimmed_follows before after (said.Stopped stop) is = follows_same before after is.2
trimmed_follows before after (said.Bad fault) is = follows_same before after is.2
trimmed_follows before after it is = absurd is

-- ---- a line

question_follows : (before after : Kept) (line : List ℕ) (it : Said) → MaySay true before line it after → Follows before after
question_follows before after line it is = follows_same before after is.3

means_follows : (before after : Kept) (line : List ℕ) (it : Said) → IsSoundState before → MayMean true before line it after → Follows before after
means_follows before after line said.Nothing sound is = absurd is
means_follows before after line (said.Bad fault) sound is = follows_same before after is.1
means_follows before after line said.Replied sound is = follows_answered before after is.0 sound is.2
means_follows before after line (said.Stopped stops.HistoryFull) sound is = follows_same before after is.3
means_follows before after line (said.Stopped stops.NoMemory) sound is = follows_same before after is.1
means_follows before after line (said.Passed end) sound is = passed before after is.0 end sound is.2
means_follows before after line said.History sound is = follows_same before after is.2
means_follows before after line (said.Trimmed count) sound is = follows_folded before after count is.1
means_follows before after line told sound is = question_follows before after line told is

answers_follows : (before after : Kept) (line : Option (List ℕ)) (it : Said) → IsSoundState before → MayAnswer true before line it after → Follows before after
answers_follows before after None it sound is = follows_same before after is.1
answers_follows before after (Some []) it sound is = follows_same before after is.1
answers_follows before after (Some (byte ∷ bytes)) it sound is = means_follows before after (byte ∷ bytes) it sound is

pub heard : (before after : State) (line : List ℕ) (it : Said) → IsSoundState before → Hears before line it after → Follows before after
heard before after line it sound is = answers_follows before after _ it sound is.may

-- ---- bytes

pub begun : (store : Embedding) → IsStart (world_in store.state) → FileKeeps (begun_journal store).answer (begun_journal store).state
begun store begins = keeps_begun (world_in store.state) begins

pub asked : (file : List ℕ) (state : State) → FileKeeps file state → FileKeeps file (pended_state state)
asked file (Journaled kept journal) k = by journal.change where
  by : (change : List Event) → FileKeeps file (Journaled kept (after_pending journal change))
  by [] = keeps_offer file (world_in kept) journal None k
  by (event ∷ events) = keeps_offer file (world_in kept) journal _ k
asked file (Plain w last) k = absurd k
asked file (Recorded past) k = absurd k

-- nothing is under way, so no bytes count
never_given : (file : List ℕ) (w : World) (j : JournalState) → j.offer ≡ None → WillKeep file w j
never_given file w j none offer is = absurd (let never : None ≡ Some offer = sym none ∙ is in cc)

pub appended : (file : List ℕ) (state : State) → FileKeeps file state → FileWillKeep (file ++ pending_text state) (pended_state state)
appended file (Journaled kept journal) k = by journal.change refl where
  by : (change : List Event) → journal.change ≡ change → FileWillKeep (file ++ pending_bytes journal.check change) (Journaled kept (after_pending journal change))
  by [] is = never_given (file ++ []) (world_in kept) (record journal { offer = None }) refl
  by (event ∷ events) is = subst (λ (c : List Event). WillKeep (file ++ change_text journal.check c) (world_in kept) (extending journal)) is (will_append file (world_in kept) journal k)
appended file (Plain w last) k = absurd k
appended file (Recorded past) k = absurd k

pub old : (file : List ℕ) (state : State) → FileKeeps file state → FileKeeps file (compacted_state state)
old file (Journaled kept journal) k = keeps_offer file (world_in kept) journal _ k
old file (Plain w last) k = absurd k
old file (Recorded past) k = absurd k

pub replaced : (state : State) → (journal_in state ≡ None → ⊥) → IsStart (world_in state) → FileWillKeep (start (world_in state)) (compacted_state state)
replaced (Journaled kept journal) has begins = will_compact (world_in kept) journal begins
replaced (Plain w last) has begins = absurd (has refl)
replaced (Recorded past) has begins = absurd (has refl)

pub written : (file : List ℕ) (state : State) → is_offered (journal_in state) ≡ true → FileWillKeep file state → FileKeeps file (settled_state state)
written file (Journaled kept journal) given will = keeps_written file (world_in kept) journal given will
written file (Plain w last) given will = absurd will
written file (Recorded past) given will = absurd will

-- ---- a store that was opened

after_event_world : (state : Kept) (event : Event) → journal_in state ≡ None → (world_in (after_event state event) ≡ (step (world_in state) event).1) × (journal_in (after_event state event) ≡ None)
after_event_world (Plain w last) event none = (refl, refl)
after_event_world (Recorded past) event none = (world_of-extended past (record { event = event; reply = reply_to past event }), refl)
after_event_world (Journaled kept journal) event none = absurd (let never = none in cc)

after_events_world : (state : Kept) (events : List Event) → journal_in state ≡ None → (world_in (after_events state events) ≡ run_of (world_in state) events) × (journal_in (after_events state events) ≡ None)
after_events_world state [] none = (refl, none)
after_events_world state (event ∷ events) none =
    let first = after_event_world state event none in
    let rest = after_events_world (after_event state event) events first.1 in
    (rest.0 ∙ ap (λ (w : World). run_of w events) first.0, rest.1)

after_changes_world : (state : Kept) (changes : List (List Event)) → journal_in state ≡ None → world_in (after_changes state changes) ≡ world_after (world_in state) changes
after_changes_world state [] none = refl
after_changes_world state (change ∷ changes) none =
    let first = after_events_world state change none in
    after_changes_world (after_events state change) changes first.1 ∙ ap (λ (w : World). world_after w changes) first.0

begun_world : (history : Bool) (base : World) → (world_in (begun_state history base) ≡ base) × (journal_in (begun_state history base) ≡ None)
begun_world true base = (refl, refl)
begun_world false base = (refl, refl)

replayed_world : (history : Bool) (base : World) (changes : List (List Event)) → world_in (after_changes (begun_state history base) changes) ≡ world_after base changes
replayed_world history base changes =
    let begins = begun_world history base in
    after_changes_world (begun_state history base) changes begins.1 ∙ ap (λ (w : World). world_after w changes) begins.0

pub opened : (bytes : List ℕ) (history : Bool) (store : Embedding) (whole : ℕ) (fault : Option Fault) → IsOpenedStore bytes history store whole fault → FileKeeps (take whole bytes) store.state
opened bytes history store whole fault o =
    subst (λ (s : Embedding). FileKeeps (take whole bytes) s.state) (sym o.is)
    (record { base = o.base; changes = o.changes; begins = o.begins; text = o.front; check = refl; world = replayed_world history o.base o.changes })

pub same_store : (file : List ℕ) (kept : Kept) (journal : JournalState) (k : Keeps file (world_in kept) journal) (history : Bool) (store : Embedding) (whole : ℕ) (fault : Option Fault) → journal.change ≡ [] → IsWhole k.base k.changes history store whole fault → IsSameStore file kept journal store whole fault
same_store file kept journal k history store whole fault none o = record {
  world = ap (λ (s : Embedding). world_in s.state) o.is ∙ replayed_world history k.base k.changes ∙ led_to k.base (world_in kept) k.changes journal.change none k.world;
  journal_is = ap (λ (s : Embedding). journal_in s.state) o.is ∙ ap (λ (c : List ℕ). Some (idle c)) (sym k.check);
  all = o.all ∙ sym (ap length k.text);
  faultless = o.faultless;
}

-- ---- all of it

pub files_keep : FilesKeep
files_keep = record {
  begun = begun;
  ran = ran;
  heard = heard;
  passed = passed;
  trimmed = trimmed_follows;
  asked = asked;
  appended = appended;
  old = old;
  replaced = replaced;
  written = written;
  opened = opened;
  same = same_store;
}
