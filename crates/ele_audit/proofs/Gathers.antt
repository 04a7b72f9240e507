-- Rows, entry after entry.
use Rattle.ele_audit.proofs.Basics.{List, [], append-nil, ap, length, drop, refl, sym, subst, ℕ, ◌++◌, ◌∷◌, ◌≡◌, ◌≤◌, ◌<◌, ◌+◌, ◌∙◌, get_or, Some, None, false, true}
pub use Rattle.ele_name_paths.proofs.Gathers.{Adds, Gathers, adds_done, adds_more, adds_none, each_append, each_done, each_more, gathers_done, gathers_more, gathers_new, gathers_none, keeps_no, keeps_one, kept_done, kept_more, left_more, left_none}
use Rattle.ele_audit.proofs.Clocks.{clocked}
use Rattle.ele_audit.specs.Clock.{clock_after}
use Rattle.std.proofs.lemmas.List.Elements.{filter-append}
use Rattle.std.specs.List.{AllZip}
use Rattle.std.specs.Prelude.{Bool, filter}
use Rattle.ele_audit.specs.Open.{opened_at, opens}
use Rattle.ele_audit.specs.Removals.{removal_in, removals}
use Rattle.ele_due.specs.declared.key.Key.{Key}
use Rattle.ele_history.specs.Legal.{IsLegal}
use Rattle.ele_model.specs.declared.entry.Entry.{Entry}
use Rattle.ele_model.specs.declared.reply.Reply.{Reply}
use Rattle.ele_model.specs.declared.reply.Reply.TheVariants as reply
use Rattle.ele_model.specs.Step.{step}
use Rattle.ele_model.specs.World.{World}

-- ---- removals on a core

pub replays_more : {B : Type 0} (R : World × Key → B → Type 0) (all : List (World × Key)) (w next : World) (entries : List Entry) (i : ℕ) (entry : Entry) (rows added more : List B)
    → i < length entries → entry ≡ get_or entries i entry → next ≡ (step w entry.event).1 → AllZip R (removal_in w entry.reply) added → more ≡ rows ++ added
    → Gathers R all (removals w (drop i entries)) rows → Gathers R all (removals next (drop (i + 1) entries)) more
replays_more R all w next entries i entry rows added more lt is next_is added_are more_is so =
    gathers_more R all (removals w (drop i entries)) (removal_in w entry.reply) (removals next (drop (i + 1) entries)) rows added more
    (rw next_is (ap (λ (left : List Entry). removals w left) (left_more entries i entry lt is))) added_are more_is so

pub replays_done : {B : Type 0} (R : World × Key → B → Type 0) (all : List (World × Key)) (w : World) (entries : List Entry) (i : ℕ) (rows : List B) → length entries ≤ i
    → Gathers R all (removals w (drop i entries)) rows → AllZip R all rows
replays_done R all w entries i rows le so = gathers_done R all (removals w (drop i entries)) rows (ap (λ (left : List Entry). removals w left) (left_none entries i le)) so

-- a reply that removes no version adds no row
none_here : (w : World) (answer : Reply) → ((key : Key) → answer ≡ reply.Removed key → ⊥) → removal_in w answer ≡ []
none_here w (reply.Removed key) other = absurd (other key refl)
none_here w answer other = refl

pub no_row : {B : Type 0} (R : World × Key → B → Type 0) (w : World) (answer : Reply) (rows : List B) → ((key : Key) → answer ≡ reply.Removed key → ⊥)
    → (added : List B) × AllZip R (removal_in w answer) added × (rows ≡ rows ++ added)
no_row R w answer rows other = ([], rw (none_here w answer other) tt, sym (append-nil rows))

-- ---- the clock by the replies

-- a world with this moment, in which the entries that are left are legal
pub record IsTime (left : List Entry) (clock : ℕ) (w : World) : Type 0 where
  pub now : clock ≡ w.now
  pub legal : IsLegal w left

pub time_more : (w : World) (entries : List Entry) (i clock : ℕ) (entry : Entry) → i < length entries → entry ≡ get_or entries i entry → IsTime (drop i entries) clock w
    → IsTime (drop (i + 1) entries) (clock_after entry.reply clock) ((step w entry.event).1)
time_more w entries i clock entry lt is time =
    let legal : IsLegal w (entry ∷ drop (i + 1) entries) = subst (λ (left : List Entry). IsLegal w left) (left_more entries i entry lt is) time.legal in
    record { now = rw (time.now, legal.0) (sym (clocked w entry.event)); legal = legal.1 }

-- ---- when a handle was opened

pub record Seeks (number : ℕ) (start : World) (all left : List Entry) (clock : ℕ) : Type 0 where
  pub w : World
  pub time : IsTime left clock w
  pub same : opened_at number start all ≡ opened_at number w left

pub seeks_more : (number : ℕ) (start : World) (entries : List Entry) (i clock : ℕ) (entry : Entry) → i < length entries → entry ≡ get_or entries i entry → opens number entry.reply ≡ false
    → Seeks number start entries (drop i entries) clock → Seeks number start entries (drop (i + 1) entries) (clock_after entry.reply clock)
seeks_more number start entries i clock entry lt is other so = record {
  w = (step so.w entry.event).1;
  time = time_more so.w entries i clock entry lt is so.time;
  same = so.same ∙ (ap (λ (left : List Entry). opened_at number so.w left) (left_more entries i entry lt is) ∙ rw other refl);
}

pub seeks_found : (number : ℕ) (start : World) (entries : List Entry) (i clock : ℕ) (entry : Entry) → i < length entries → entry ≡ get_or entries i entry → opens number entry.reply ≡ true
    → Seeks number start entries (drop i entries) clock → opened_at number start entries ≡ Some clock
seeks_found number start entries i clock entry lt is opened so = so.same ∙ (ap (λ (left : List Entry). opened_at number so.w left) (left_more entries i entry lt is) ∙ rw opened (ap Some (sym so.time.now)))

pub seeks_none : (number : ℕ) (start : World) (entries : List Entry) (i clock : ℕ) → length entries ≤ i → Seeks number start entries (drop i entries) clock → opened_at number start entries ≡ None
seeks_none number start entries i clock le so = so.same ∙ ap (λ (left : List Entry). opened_at number so.w left) (left_none entries i le)

-- ---- the beginnings

pub replays_none : {B : Type 0} (R : World × Key → B → Type 0) (start w : World) (entries : List Entry) (rows : List B) → rows ≡ [] → w ≡ start → Gathers R (removals start entries) (removals w entries) rows
replays_none R start w entries rows none is = rw (is, none) (gathers_none R (removals start entries))

pub seeks_begin : (number : ℕ) (start : World) (entries : List Entry) (clock : ℕ) → clock ≡ start.now → IsLegal start entries → Seeks number start entries entries clock
seeks_begin number start entries clock is legal = record { w = start; time = record { now = is; legal = legal }; same = refl }

-- ---- the removals that pass a test, on a core

pub keeps_more : {B : Type 0} (R : World × Key → B → Type 0) (keep : World × Key → Bool) (all : List (World × Key)) (w next : World) (entries : List Entry) (i : ℕ) (entry : Entry) (rows added more : List B)
    → i < length entries → entry ≡ get_or entries i entry → next ≡ (step w entry.event).1 → AllZip R (filter keep (removal_in w entry.reply)) added → more ≡ rows ++ added
    → Gathers R all (filter keep (removals w (drop i entries))) rows → Gathers R all (filter keep (removals next (drop (i + 1) entries))) more
keeps_more R keep all w next entries i entry rows added more lt is next_is added_are more_is so =
    gathers_more R all (filter keep (removals w (drop i entries))) (filter keep (removal_in w entry.reply)) (filter keep (removals next (drop (i + 1) entries))) rows added more
    (rw next_is (ap (λ (left : List Entry). filter keep (removals w left)) (left_more entries i entry lt is) ∙ filter-append keep (removal_in w entry.reply) (removals ((step w entry.event).1) (drop (i + 1) entries)))) added_are more_is so

pub keeps_done : {B : Type 0} (R : World × Key → B → Type 0) (keep : World × Key → Bool) (all : List (World × Key)) (w : World) (entries : List Entry) (i : ℕ) (rows : List B) → length entries ≤ i
    → Gathers R all (filter keep (removals w (drop i entries))) rows → AllZip R all rows
keeps_done R keep all w entries i rows le so = gathers_done R all (filter keep (removals w (drop i entries))) rows (ap (λ (left : List Entry). filter keep (removals w left)) (left_none entries i le)) so

pub keeps_none : {B : Type 0} (R : World × Key → B → Type 0) (keep : World × Key → Bool) (start w : World) (entries : List Entry) (rows : List B) → rows ≡ [] → w ≡ start
    → Gathers R (filter keep (removals start entries)) (filter keep (removals w entries)) rows
keeps_none R keep start w entries rows none is = rw (is, none) (gathers_none R (filter keep (removals start entries)))
