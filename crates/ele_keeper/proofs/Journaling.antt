-- What keeps a world, with a journal that notes its events.
use Rattle.std.proofs.Common.{◌≡◌, ℕ, ◌+◌, ◌-◌, ◌<◌, ◌≤◌, suc, Bool, true, false, not, ◌&&◌, List, [], ◌∷◌, ◌++◌, length, take, Option, Some, None, is_some, Result, Ok, Err, inl, inr, refl, sym, ap, subst, ◌∙◌, arith, length-append}
use Rattle.std.proofs.lemmas.List.{take-append-le, take_at}
use Rattle.ele_keeper.specs.Kept.{MayClean, has_changed, is_removed, journaled_state, state_of, with_journal}
use Rattle.ele_keeper.specs.declared.keeper.Keeper.{Keeper}
use Rattle.ele_keeper.specs.declared.keeper.Keeper.TheVariants as keeper
use Rattle.ele_keeper.specs.declared.journaled.JournaledKeeper.{JournaledKeeper}
use Rattle.ele_due.specs.declared.key.Key.{Key}
use Rattle.ele_journal.specs.Events.{changes}
use Rattle.ele_journaled.specs.JournalState.{JournalState, adding, counts, grown, is_unchanged, answering}
use Rattle.ele_model.specs.Scan.{first_due}
use Rattle.ele_model.specs.Step.{clean_step, step}
use Rattle.ele_model.specs.World.{World}
use Rattle.ele_model.specs.declared.event.Event.{Event}
use Rattle.ele_model.specs.declared.event.Event.TheVariants.{CleanOne}
use Rattle.ele_model.specs.declared.refusal.Stop.{Stop}
use Rattle.ele_model.specs.declared.refusal.Stop.TheVariants.{NoMemory, HistoryFull}
use Rattle.ele_model.specs.declared.reply.Reply.{Reply}
use Rattle.ele_model.specs.declared.reply.Reply.TheVariants as replies
use Rattle.ele_model.proofs.Cleans.{clean_of}
use Rattle.ele_runs.proofs.Blocks.{last_replied, stays}
use Rattle.ele_runs.specs.Kept.{Kept, Plain, Recorded, Journaled, Answered, RemovesMany, RemovesOne, StopsEvent, Stays, has_past, journal_in, last_in, past_in, world_in}
use Rattle.ele_runs.specs.Said.{Explains, Records, Trims}
use Rattle.ele_script.specs.declared.reading.Question.{Question}
use Rattle.ele_runs.specs.declared.said.Said.{Said}
use Rattle.ele_runs.specs.declared.said.Said.TheVariants.{Bad, Replied, Stopped, Trimmed}

-- the last reply is that of the step
pub answered_last : (before after : Kept) (event : Event) → Answered before event after → last_in after ≡ Some ((step (world_in before) event).0)
answered_last (Plain w last) (Plain w' last') event answered = answered.1 ∙ ap (λ (out : Reply × World). Some out.0) answered.2
answered_last (Recorded past) (Recorded past') event answered = last_replied past past' event answered.1
answered_last (Journaled kept journal) (Journaled kept' journal') event answered = answered_last kept kept' event answered.0
answered_last before after event answered = absurd answered

-- ---- an event

-- a question is under way in no journal
uncounted : (journal : JournalState) (event : Event) (reply : Reply) → counts event reply ≡ false → journal ≡ answering journal event reply
uncounted journal event reply is = rw is refl

counted : (journal : JournalState) (event : Event) (reply : Reply) → counts event reply ≡ true → adding journal event ≡ answering journal event reply
counted journal event reply is = rw is refl

no_question : (event : Event) (reply : Reply) → changes event ≡ false → counts event reply ≡ false
no_question event reply is = rw is refl

some_once : {X : Type 0} {x y : X} → Some x ≡ Some y → x ≡ y
some_once e = cc

-- the answer with a journal, if that of the step leaves this one
with_answer : (before after : Kept) (journal new : JournalState) (event : Event) → Answered before event after → new ≡ answering journal event ((step (world_in before) event).0) → Records (Journaled before journal) event Replied (Journaled after new)
with_answer before after journal new event answered is = (answered, is)

stopped : (before after : Kept) (journal : JournalState) (event : Event) (stop : Stop) → StopsEvent before event stop × Stays before after → Records (Journaled before journal) event (Stopped stop) (Journaled after journal)
stopped before after journal event NoMemory is = (inl is.0, (is.1, refl))
stopped before after journal event HistoryFull is = (is.0, (is.1, refl))

-- a question leaves the journal
pub asked : (before after : Kept) (journal : JournalState) (event : Event) (said : Said) → changes event ≡ false → Records before event said after → Records (Journaled before journal) event said (Journaled after journal)
asked before after journal event Replied is done = with_answer before after journal journal event done (uncounted journal event _ (no_question event _ is))
asked before after journal event (Stopped stop) is done = stopped before after journal event stop done
asked before after journal event said is done = absurd done

-- memory for the journal was refused
pub lacking : (before : Kept) (journal : JournalState) (event : Event) → changes event ≡ true → Records (Journaled before journal) event (Stopped NoMemory) (Journaled before journal)
lacking before journal event is = (inr is, (stays before, refl))

changed_by : (event : Event) (reply : Reply) (b : Bool) → changes event ≡ true → not (is_unchanged reply) ≡ b → counts event reply ≡ b
changed_by event reply b is not_is = rw (is, not_is) refl

same_reply : (last : Option Reply) (reply : Reply) (b : Bool) → last ≡ Some reply → has_changed Replied last ≡ b → not (is_unchanged reply) ≡ b
same_reply last reply b is changed = sym (ap (has_changed Replied) is) ∙ changed

-- an event that changed something is under way
pub under_way : (before after : Kept) (journal : JournalState) (event : Event) (said : Said) → changes event ≡ true → has_changed said (last_in after) ≡ true → Records before event said after → Records (Journaled before journal) event said (Journaled after (adding journal event))
under_way before after journal event Replied is changed done =
    with_answer before after journal (adding journal event) event done (counted journal event _ (changed_by event _ true is (same_reply (last_in after) _ true (answered_last before after event done) changed)))
under_way before after journal event said is changed done = absurd (let never : false ≡ true = changed in cc)

added_last : (xs : List Event) (event : Event) → take (length (xs ++ event ∷ []) - 1) (xs ++ event ∷ []) ≡ xs
added_last xs event = take_at xs (event ∷ []) (length (xs ++ event ∷ []) - 1) (omega (arith, length-append xs (event ∷ [])))

-- any other is taken back
back_is : (journal added new : JournalState) (event : Event) → added ≡ adding journal event → new ≡ record added { change = take (length added.change - 1) added.change } → new ≡ journal
back_is journal added new event add back =
    back ∙ ap (λ (j : JournalState). let k : JournalState = record j { change = take (length j.change - 1) j.change } in k) add
    ∙ ap (λ (xs : List Event). let k : JournalState = record journal { change = xs } in k) (added_last journal.change event)

left : (before after : Kept) (journal : JournalState) (event : Event) (said : Said) → changes event ≡ true → has_changed said (last_in after) ≡ false → Records before event said after
    → Records (Journaled before journal) event said (Journaled after journal)
left before after journal event Replied is changed done =
    with_answer before after journal journal event done (uncounted journal event _ (changed_by event _ false is (same_reply (last_in after) _ false (answered_last before after event done) changed)))
left before after journal event (Stopped stop) is changed done = stopped before after journal event stop done
left before after journal event said is changed done = absurd done

pub taken_back : (before after : Kept) (journal added new : JournalState) (event : Event) (said : Said) → changes event ≡ true → added ≡ adding journal event → has_changed said (last_in after) ≡ false
    → new ≡ record added { change = take (length added.change - 1) added.change } → Records before event said after → Records (Journaled before journal) event said (Journaled after new)
taken_back before after journal added new event said is add changed back done =
    subst (λ (j : JournalState). Records (Journaled before journal) event said (Journaled after j)) (sym (back_is journal added new event add back)) (left before after journal event said is changed done)

-- ---- a pass

clean_reply : (w : World) (due : Option Key) (reply : Reply) → reply ≡ (clean_of w due).0 → is_removed (Some reply) ≡ false → reply ≡ replies.Nothing
clean_reply w None reply is not_removed = is
clean_reply w (Some key) reply is not_removed = absurd (let never = rw is at not_removed in cc)

removed_key : (reply : Reply) → is_removed (Some reply) ≡ true → (key : Key) × (reply ≡ replies.Removed key)
removed_key (replies.Removed key) is = (key, refl)
removed_key reply is = absurd cc

pub replied_clean : (before after : Kept) (b : Bool) → Answered before CleanOne after → is_removed (last_in after) ≡ b → MayClean before (Ok b) after
replied_clean before after true answered removed =
    let told = answered_last before after CleanOne answered in
    let key = removed_key ((step (world_in before) CleanOne).0) (sym (ap is_removed told) ∙ removed) in
    (key.0, key.1, answered)
replied_clean before after false answered removed =
    let told = answered_last before after CleanOne answered in
    (clean_reply (world_in before) (first_due (world_in before)) ((step (world_in before) CleanOne).0) refl (sym (ap is_removed told) ∙ removed), answered)

-- one more is removed
pub removes_more : (before between after : Kept) (n : ℕ) → RemovesMany before n between → RemovesOne between after → RemovesMany before (n + 1) after
removes_more before between after n removes one =
    let more : n + 1 ≡ suc n = omega arith in
    subst (λ (m : ℕ). RemovesMany before m after) (sym more) (between, removes, one)

-- ---- with a journal or without

pub explains_with : (kept : Kept) (o : Option JournalState) (asked : Question) (said : Said) → Explains kept asked said → Explains (with_journal kept o) asked said
explains_with kept None asked said is = is
explains_with kept (Some journal) asked (Stopped stop) is = is
explains_with kept (Some journal) asked (Bad fault) is = is
explains_with kept (Some journal) asked said is = is

pub trims_with : (before after : Kept) (o : Option JournalState) (said : Said) → Trims before said after → Trims (with_journal before o) said (with_journal after o)
trims_with before after None said is = is
trims_with before after (Some journal) (Trimmed count) is = (is, refl)
trims_with before after (Some journal) (Stopped stop) is = (is.0, is.1, (is.2, refl))
trims_with before after (Some journal) (Bad fault) is = (is.0, is.1, (is.2, refl))
trims_with before after (Some journal) said is = absurd is

pub world_with : (kept : Kept) (o : Option JournalState) → world_in (with_journal kept o) ≡ world_in kept
world_with kept None = refl
world_with kept (Some journal) = refl

pub past_with : (kept : Kept) (o : Option JournalState) → past_in (with_journal kept o) ≡ past_in kept
past_with kept None = refl
past_with kept (Some journal) = refl

pub last_with : (kept : Kept) (o : Option JournalState) → last_in (with_journal kept o) ≡ last_in kept
last_with kept None = refl
last_with kept (Some journal) = refl

pub has_past_with : (kept : Kept) (o : Option JournalState) → has_past (with_journal kept o) ≡ has_past kept
has_past_with kept None = refl
has_past_with kept (Some journal) = refl

pub journal_with : (it : Keeper) (o : Option JournalState) → journal_in (with_journal (state_of it) o) ≡ o
journal_with (keeper.Plain core last) None = refl
journal_with (keeper.Recorded past) None = refl
journal_with it (Some journal) = refl
