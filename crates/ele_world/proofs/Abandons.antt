-- An abandoned handle is gone, and so is the draft that it alone wrote.
use Rattle.ele_model.proofs.Basics.{nat_tests, arith, ◌≡◌, ℕ, ◌<◌, Bool, true, false, List, [], ◌∷◌, None, Ok, refl, find, list_any, AllLater, later-weaker, find-remove_first, not_found, all-weaker, remove_first}
use Rattle.ele_model.proofs.Words.{World, HasParts, Drafts, Handles, EndDraft, ShutHandle, DropIdle, after_change, file_by, has_draft, is_draft, is_handle, plan, step}
use Rattle.ele_model.specs.Step.{has_other_writer}
use Rattle.ele_world.proofs.Words.{Abandon, Done, DraftRow, HandleRow}
use Rattle.ele_world.specs.AbandonLeaves.{AbandonLeaves, AbandonsDraft}
use Rattle.ele_model.proofs.Dropped.{dropped}
use Rattle.ele_model.proofs.PlanOutcomes.{in_all}

-- the last writer's end
abbrev ended : World → (handle file : ℕ) → World
ended w handle file = after_change (after_change w (ShutHandle handle)) (EndDraft file)

-- what doesn't look at files, names and groups doesn't see that a file is dropped
unseen : (Q : World → Type 0) (u : World) (file : ℕ) → ((v : World) → v.versions ≡ u.versions → v.drafts ≡ u.drafts → v.handles ≡ u.handles → v.made ≡ u.made → Q v) → Q (after_change u (DropIdle file))
unseen Q u file so = dropped Q u file (λ idle. so _ refl refl refl refl) (λ busy. so u refl refl refl refl)

pub abandon_leaves : AbandonLeaves
abandon_leaves w handle = in_all w (λ answer. ((answer.1).versions ≡ w.versions) × ((answer.1).made ≡ w.made)) (plan w (Abandon handle)) (λ refusal. (refl, refl))
    (λ file writes. (λ other. (refl, refl), λ last. unseen (λ v. (v.versions ≡ w.versions) × (v.made ≡ w.made)) (ended w handle file) file (λ v versions drafts handles made. (versions, made))))

-- ---- what is gone

-- once the only one that passes is removed, none is found
only_gone : {X : Type 0} (p : X → Bool) (xs : List X) → AllLater (λ earlier later. p earlier ≡ true → p later ≡ false) xs → find p (remove_first p xs) ≡ None
only_gone p [] only = refl
only_gone p (x ∷ xs) only = grind (arith, nat_tests, not_found p xs, all-weaker (λ later. p x ≡ true → p later ≡ false) (λ later. p later ≡ false) xs, only_gone p xs only.1)

none_any : {X : Type 0} (p : X → Bool) (xs : List X) → find p xs ≡ None → list_any p xs ≡ false
none_any p [] none = refl
none_any p (x ∷ xs) none = grind (arith, nat_tests, none_any p xs)

module _ (w : World) (k : HasParts w) (handle : ℕ) where
  handle_gone : find (is_handle handle) (remove_first (is_handle handle) w.handles) ≡ None
  handle_gone = only_gone (is_handle handle) w.handles (later-weaker (λ (earlier : HandleRow) later. earlier.number < later.number) (λ earlier later. is_handle handle earlier ≡ true → is_handle handle later ≡ false) w.handles (λ x y less is. grind (arith, nat_tests, less, is)) (k.holds Handles).placed)

  draft_gone : (file : ℕ) → has_draft (ended w handle file) file ≡ false
  draft_gone file = none_any (is_draft file) (remove_first (is_draft file) w.drafts) (only_gone (is_draft file) w.drafts (later-weaker (λ (earlier : DraftRow) later. earlier.file < later.file) (λ earlier later. is_draft file earlier ≡ true → is_draft file later ≡ false) w.drafts (λ x y less is. grind (arith, nat_tests, less, is)) (k.holds Drafts).placed))

  shared : (file : ℕ) → file_by w.handles handle ≡ Ok file → has_other_writer w handle file ≡ true → AbandonsDraft w handle (after_change w (ShutHandle handle))
  shared file writes other = record {
    file = file;
    written = writes;
    gone = rw handle_gone refl;
    kept = λ one. refl;
    undrafted = λ none. absurd cc;
    others = λ of apart. refl;
  }

  alone : (file : ℕ) → file_by w.handles handle ≡ Ok file → has_other_writer w handle file ≡ false → AbandonsDraft w handle (after_change (ended w handle file) (DropIdle file))
  alone file writes last = unseen (AbandonsDraft w handle) (ended w handle file) file (λ v versions drafts handles made. record {
    file = file;
    written = writes;
    gone = rw (handles, handle_gone) refl;
    kept = λ one. absurd cc;
    undrafted = λ none. rw drafts (draft_gone file);
    others = λ of apart. rw drafts (find-remove_first (is_draft file) (is_draft of) w.drafts (λ row is. grind (arith, nat_tests, is, apart)));
  })

pub abandon_drops : (w : World) (handle : ℕ) → HasParts w → (step w (Abandon handle)).0 ≡ Done → AbandonsDraft w handle ((step w (Abandon handle)).1)
abandon_drops w handle k = in_all w (λ answer. answer.0 ≡ Done → AbandonsDraft w handle (answer.1)) (plan w (Abandon handle)) (λ refusal told. absurd cc)
    (λ file writes. (λ other told. shared w k handle file writes other, λ last told. alone w k handle file writes last))
