-- Which files keep a world with its journal after an event and after each call.
use Rattle.std.proofs.Common.{◌≡◌, ℕ, ◌+◌, ◌-◌, ◌<◌, ◌≤◌, Bool, true, false, ◌&&◌, List, [], ◌∷◌, ◌++◌, length, take, drop, Option, Some, None, is_some, refl, sym, ap, subst, ◌∙◌, append_assoc, arith, if◌then◌else◌}
use Rattle.std.specs.Prelude.{IfSome}
use Rattle.std.specs.List.{list_all}
use Rattle.std.proofs.lemmas.List.{append-nil, drop_all, drop-append-le, take-append-drop, take_at, length-append, length-drop, length-take-le}
use Rattle.std.proofs.lemmas.List.Folds.{list_all-append}
use Rattle.ele_model.specs.declared.event.Event.{Event}
use Rattle.ele_model.specs.declared.reply.Reply.{Reply}
use Rattle.ele_model.specs.Run.{run_of}
use Rattle.ele_model.specs.Start.{IsStart}
use Rattle.ele_model.specs.Step.{step}
use Rattle.ele_model.specs.World.{World}
use Rattle.ele_model.proofs.Reached.{run_of-append}
use Rattle.ele_journal.specs.Changes.{after_change, change_text, changes_text, last_check}
use Rattle.ele_journal.specs.Events.{changes}
use Rattle.ele_journal.specs.Journal.{first_check, journal, start}
use Rattle.ele_journal.proofs.Changes.{check_push, text_push}
use Rattle.ele_journaled.specs.declared.offer.Offer.{Offer}
use Rattle.ele_journaled.specs.JournalState.{JournalState, confirming, counts, extending, grown, idle, answering, replacing, settling}
use Rattle.ele_journaled.specs.Keeps.{IsSound, Keeps, StaysKept, WillKeep, world_after}
use Rattle.ele_journaled.proofs.Uncounted.{uncounted_stays}

-- ---- lists

none_left : {X : Type 0} (xs : List X) → drop (length xs) xs ≡ []
none_left xs = drop_all (length xs) xs (omega arith)

pub turned : {X : Type 0} (n left : ℕ) (xs : List X) → left + n ≡ length xs → take left (drop n xs ++ take n xs) ≡ drop n xs
turned n left xs is = take_at (drop n xs) (take n xs) left (omega (arith, is, length-drop n xs))

-- ---- an event

grown_by : (before w : World) (change : List Event) (event : Event) (b : Bool) → counts event ((step w event).0) ≡ b → w ≡ run_of before change → (step w event).1 ≡ run_of before (if b then change ++ event ∷ [] else change)
grown_by before w change event true is led = ap (λ (v : World). (step v event).1) led ∙ sym (run_of-append before change (event ∷ []))
grown_by before w change event false is led = uncounted_stays w event is ∙ led

grown_world : (before w : World) (change : List Event) (event : Event) → w ≡ run_of before change → (step w event).1 ≡ run_of before (grown change event ((step w event).0))
grown_world before w change event led = grown_by before w change event (counts event ((step w event).0)) refl led

dropped_by : (n : ℕ) (change : List Event) (event : Event) (b : Bool) → n ≤ length change → drop n (if b then change ++ event ∷ [] else change) ≡ (if b then drop n change ++ event ∷ [] else drop n change)
dropped_by n change event true le = drop-append-le n change (event ∷ []) le
dropped_by n change event false le = refl

dropped : (n : ℕ) (change : List Event) (event : Event) (reply : Reply) → n ≤ length change → drop n (grown change event reply) ≡ grown (drop n change) event reply
dropped n change event reply le = dropped_by n change event (counts event reply) le

keeps_on : (w : World) (state : JournalState) (event : Event) (file : List ℕ) → Keeps file w state → Keeps file ((step w event).1) (answering state event ((step w event).0))
keeps_on w state event file k = record {
  base = k.base;
  changes = k.changes;
  begins = k.begins;
  text = k.text;
  check = k.check;
  world = grown_world (world_after k.base k.changes) w state.change event k.world;
}

confirmed_on : (w : World) (state : JournalState) (event : Event) (offer : Offer) (file : List ℕ) → offer.count ≤ length state.change → Keeps file w (confirming state (Some offer))
    → Keeps file ((step w event).1) (confirming (answering state event ((step w event).0)) (Some offer))
confirmed_on w state event offer file le k = record {
  base = k.base;
  changes = k.changes;
  begins = k.begins;
  text = k.text;
  check = k.check;
  world = grown_world (world_after k.base k.changes) w (drop offer.count state.change) event k.world
      ∙ ap (run_of (world_after k.base k.changes)) (sym (dropped offer.count state.change event ((step w event).0) le));
}

pub some_is : {X : Type 0} (P : X → Type 0) (o : Option X) (x : X) → o ≡ Some x → IfSome o P → P x
some_is P o x is all = subst (λ (o : Option _). IfSome o P) is all

pub stays : (w : World) (state : JournalState) (event : Event) → IsSound state.change state.offer → StaysKept w state ((step w event).1) (answering state event ((step w event).0))
stays w state event sound = record {
  kept = keeps_on w state event;
  offered = λ file will offer is. confirmed_on w state event offer file (some_is (λ (offer : Offer). offer.count ≤ length state.change) state.offer offer is sound.within) (will offer is);
}

pub same : (w : World) (state : JournalState) → StaysKept w state w state
same w state = record { kept = λ file k. k; offered = λ file will. will }

-- ---- bytes

still_within : (change : List Event) (event : Event) (offer : Option Offer) → IfSome offer (λ offer. offer.count ≤ length change) → IfSome offer (λ offer. offer.count ≤ length (change ++ event ∷ []))
still_within change event None le = tt
still_within change event (Some offer) le = omega (arith, le, length-append change (event ∷ []))

-- no bytes have an event that was just added
last_within_by : (change : List Event) (event : Event) (offer : Option Offer) → IfSome offer (λ offer. offer.count ≤ length change) → IfSome offer (λ offer. offer.count < length (change ++ event ∷ []))
last_within_by change event None le = tt
last_within_by change event (Some offer) le = omega (arith, le, length-append change (event ∷ []))

pub last_within : (change : List Event) (event : Event) (offer : Option Offer) → IsSound change offer → IfSome offer (λ offer. offer.count < length (change ++ event ∷ []))
last_within change event offer sound = last_within_by change event offer sound.within

pub sound_grown : (change : List Event) (offer : Option Offer) (event : Event) → IsSound change offer → changes event ≡ true → IsSound (change ++ event ∷ []) offer
sound_grown change offer event sound is = record {
  changing = list_all-append changes change (event ∷ []) ∙ rw (sound.changing, is) refl;
  within = still_within change event offer sound.within;
}

both_left : (a b : Bool) → (a && b) ≡ true → a ≡ true
both_left true b e = refl
both_left false b e = absurd cc

sound_by : (change : List Event) (offer : Option Offer) (event : Event) (reply : Reply) (b : Bool) → counts event reply ≡ b → IsSound change offer → IsSound (if b then change ++ event ∷ [] else change) offer
sound_by change offer event reply true is sound = sound_grown change offer event sound (both_left (changes event) _ is)
sound_by change offer event reply false is sound = sound

-- an event that counts is no question
pub still_sound : (change : List Event) (offer : Option Offer) (event : Event) (reply : Reply) → IsSound change offer → IsSound (grown change event reply) offer
still_sound change offer event reply sound = sound_by change offer event reply (counts event reply) refl sound

pub sound_offered : (change : List Event) (offer : Option Offer) (given : Offer) → IsSound change offer → given.count ≡ length change → IsSound change (Some given)
sound_offered change offer given sound is = record { changing = sound.changing; within = omega (arith, is) }

both_right : (a b : Bool) → (a && b) ≡ true → b ≡ true
both_right true b e = e
both_right false b e = absurd cc

all_dropped : (n : ℕ) (change : List Event) → list_all changes change ≡ true → list_all changes (drop n change) ≡ true
all_dropped n change all = both_right (list_all changes (take n change)) (list_all changes (drop n change)) (sym (list_all-append changes (take n change) (drop n change)) ∙ ap (list_all changes) (take-append-drop n change) ∙ all)

all_taken : (n : ℕ) (change : List Event) → list_all changes change ≡ true → list_all changes (take n change) ≡ true
all_taken n change all = both_left (list_all changes (take n change)) (list_all changes (drop n change)) (sym (list_all-append changes (take n change) (drop n change)) ∙ ap (list_all changes) (take-append-drop n change) ∙ all)

within_back : (n m : ℕ) (offer : Option Offer) → m + 1 ≡ n → IfSome offer (λ offer. offer.count < n) → IfSome offer (λ offer. offer.count ≤ m)
within_back n m None is lt = tt
within_back n m (Some offer) is lt = omega (arith, is, lt)

within_none : (m : ℕ) (offer : Option Offer) → IfSome offer (λ offer. offer.count < 0) → IfSome offer (λ offer. offer.count ≤ m)
within_none m None lt = tt
within_none m (Some offer) lt = absurd (omega (arith, lt))

-- the last event is taken back, which no bytes have
pub sound_back : (change : List Event) (offer : Option Offer) → IsSound change offer → IfSome offer (λ offer. offer.count < length change) → IsSound (take (length change - 1) change) offer
sound_back [] offer sound lt = record { changing = refl; within = within_none 0 offer lt }
sound_back (event ∷ events) offer sound lt = record {
  changing = all_taken (length (event ∷ events) - 1) (event ∷ events) sound.changing;
  within = within_back (length (event ∷ events)) (length (take (length (event ∷ events) - 1) (event ∷ events))) offer (omega (arith, length-take-le (length (event ∷ events) - 1) (event ∷ events) (omega arith))) lt;
}

pub sound_written : (n : ℕ) (change : List Event) (offer : Option Offer) → IsSound change offer → IsSound (drop n change) None
sound_written n change offer sound = record { changing = all_dropped n change sound.changing; within = tt }

world_push : (base : World) (changes : List (List Event)) (change : List Event) → world_after base (changes ++ change ∷ []) ≡ run_of (world_after base changes) change
world_push base [] change = refl
world_push base (first ∷ changes) change = world_push (run_of base first) changes change

appended : (file : List ℕ) (w : World) (state : JournalState) → Keeps file w state
    → Keeps (file ++ change_text state.check state.change) w (confirming (extending state) (Some (record { check = after_change state.check state.change; count = length state.change })))
appended file w state k =
    let first = first_check k.base in
    record {
      base = k.base;
      changes = k.changes ++ state.change ∷ [];
      begins = k.begins;
      text = ap (λ (t : List ℕ). t ++ change_text state.check state.change) k.text
          ∙ ap (λ (c : List ℕ). journal k.base k.changes ++ change_text c state.change) k.check
          ∙ append_assoc (start k.base) (changes_text first k.changes) (change_text (last_check first k.changes) state.change)
          ∙ ap (λ (t : List ℕ). start k.base ++ t) (sym (text_push first k.changes state.change));
      check = ap (λ (c : List ℕ). after_change c state.change) k.check ∙ sym (check_push first k.changes state.change);
      world = k.world ∙ sym (world_push k.base k.changes state.change) ∙ ap (run_of (world_after k.base (k.changes ++ state.change ∷ []))) (sym (none_left state.change));
    }

some_once : {X : Type 0} (x y : X) → Some x ≡ Some y → x ≡ y
some_once x y e = cc

pub will_append : (file : List ℕ) (w : World) (state : JournalState) → Keeps file w state → WillKeep (file ++ change_text state.check state.change) w (extending state)
will_append file w state k offer is =
    let given : Offer = record { check = after_change state.check state.change; count = length state.change } in
    subst (λ (o : Offer). Keeps (file ++ change_text state.check state.change) w (confirming (extending state) (Some o))) (some_once given offer is) (appended file w state k)

compacted : (w : World) (state : JournalState) → IsStart w → Keeps (start w) w (confirming (replacing w state) (Some (record { check = first_check w; count = length state.change })))
compacted w state begins = record {
  base = w;
  changes = [];
  begins = begins;
  text = sym (append-nil (start w));
  check = refl;
  world = ap (run_of w) (sym (none_left state.change));
}

pub will_compact : (w : World) (state : JournalState) → IsStart w → WillKeep (start w) w (replacing w state)
will_compact w state begins offer is =
    let given : Offer = record { check = first_check w; count = length state.change } in
    subst (λ (o : Offer). Keeps (start w) w (confirming (replacing w state) (Some o))) (some_once given offer is) (compacted w state begins)

-- what was given doesn't matter for what a file keeps
pub keeps_offer : (file : List ℕ) (w : World) (state : JournalState) (o : Option Offer) → Keeps file w state → Keeps file w (record state { offer = o })
keeps_offer file w state o k = record { base = k.base; changes = k.changes; begins = k.begins; text = k.text; check = k.check; world = k.world }

pub keeps_begun : (w : World) → IsStart w → Keeps (start w) w (idle (first_check w))
keeps_begun w begins = record {
  base = w;
  changes = [];
  begins = begins;
  text = sym (append-nil (start w));
  check = refl;
  world = refl;
}

keeps_by : (file : List ℕ) (w : World) (state : JournalState) (o : Option Offer) → state.offer ≡ o → is_some o ≡ true → WillKeep file w state → Keeps file w (confirming state o)
keeps_by file w state None is some will = absurd cc
keeps_by file w state (Some offer) is some will = will offer is

pub keeps_written : (file : List ℕ) (w : World) (state : JournalState) → is_some state.offer ≡ true → WillKeep file w state → Keeps file w (settling state)
keeps_written file w state some will = keeps_by file w state state.offer refl some will
