-- Each draft has a handle that writes it, after each event and so in every run.
use Rattle.ele_model.proofs.Basics.{rules, nat_tests, arith, ◌≡◌, ℕ, ◌+◌, ◌==◌, not, Bool, true, false, List, [], ◌∷◌, ◌++◌, Some, None, Ok, refl, find, AllByRecursion, list_any, update_first, remove_first, insert_before, list_any-append, list_any-remove_first, all-both, all-insert_before, all-not_found, all-remove_first, all-update_first, all-weaker, filter-passes, not-true, remove_first-key}
use Rattle.ele_model.proofs.Words.{World, IsEvent, HasParts, Drafts, DropIdle, EndDraft, ShutHandle, Take, after_change, draft_read, is_draft, is_draft_after, is_handle, is_writer, new_draft, plan, reads_by, run_of, step, writes}
use Rattle.ele_world.proofs.Words.{Event, Close, Abandon, CleanOne, Read, OpenWrite, DraftRow, HandleRow, Reads, Draft}
use Rattle.ele_model.specs.Writers.{HaveWriters}
use Rattle.ele_model.proofs.Dropped.{dropped}
use Rattle.ele_model.proofs.KeptDrafts.{same_file}
use Rattle.ele_model.proofs.PlanOutcomes.{AfterAll, in_all}
use Rattle.ele_model.proofs.Readers.{reads_draft}
use Rattle.ele_model.proofs.StepKeeps.{step_keeps}

abbrev Written : List HandleRow → DraftRow → Type 0
Written handles draft = list_any (is_writer draft.file) handles ≡ true

-- ---- handles and drafts that are added or change

more : (handles : List HandleRow) (row : HandleRow) (drafts : List DraftRow) → AllByRecursion (Written handles) drafts → AllByRecursion (Written (handles ++ row ∷ [])) drafts
more handles row drafts = all-weaker (Written handles) (Written (handles ++ row ∷ [])) drafts (λ draft so. grind (arith, so, list_any-append (is_writer draft.file) handles (row ∷ [])))

begun : (w : World) (file number : ℕ) → HaveWriters w → AllByRecursion (Written (w.handles ++ record { number = number; reads = Draft file } ∷ [])) (insert_before (is_draft_after file) (new_draft w file) w.drafts)
begun w file number have = all-insert_before (is_draft_after file) (Written (w.handles ++ record { number = number; reads = Draft file } ∷ [])) (new_draft w file) w.drafts (grind (arith, nat_tests, list_any-append (is_writer file) w.handles (record { number = number; reads = Draft file } ∷ []))) (more w.handles (record { number = number; reads = Draft file }) w.drafts have)

edited : (w : World) (file : ℕ) (f : DraftRow → DraftRow) → ((row : DraftRow) → (f row).file ≡ row.file) → HaveWriters w → AllByRecursion (Written w.handles) (update_first (is_draft file) f w.drafts)
edited w file f own = all-update_first (is_draft file) (Written w.handles) (Written w.handles) f w.drafts (λ row so. rw (own row) so) (λ row so. so)

dropped_too : (u : World) (file : ℕ) → HaveWriters u → HaveWriters (after_change u (DropIdle file))
dropped_too u file have = dropped HaveWriters u file (λ idle. have) (λ busy. have)

-- ---- a handle goes

module _ (w : World) (k : HasParts w) (have : HaveWriters w) (handle : ℕ) (read : Reads) (found : reads_by w.handles handle ≡ Ok read) where
  abbrev left : List HandleRow
  left = remove_first (is_handle handle) w.handles

  -- what it didn't write
  other : (draft : DraftRow) → writes draft.file read ≡ false → Written w.handles draft → Written left draft
  other draft unwritten so = rw (list_any-remove_first (is_handle handle) (is_writer draft.file) w.handles (λ row is. grind (arith, nat_tests, found, is, unwritten))) so

  reader : draft_read read ≡ None → AllByRecursion (Written left) w.drafts
  reader none = all-weaker (Written w.handles) (Written left) w.drafts (λ draft so. other draft (grind (arith, nat_tests, none)) so) have

  module _ (file : ℕ) (its : draft_read read ≡ Some file) where
    apart : (draft : DraftRow) → is_draft file draft ≡ false → Written w.handles draft → Written left draft
    apart draft is so = other draft (grind (arith, nat_tests, its, is)) so

    shared : list_any (is_writer file) left ≡ true → AllByRecursion (Written left) w.drafts
    shared one = all-weaker (Written w.handles) (Written left) w.drafts (λ draft so. by draft (is_draft file draft) refl so) have where
      by : (draft : DraftRow) (b : Bool) → is_draft file draft ≡ b → Written w.handles draft → Written left draft
      by draft true is so = let own : draft.file ≡ file = grind (arith, nat_tests, is) in rw own one
      by draft false is so = apart draft is so

    absent : find (is_draft file) w.drafts ≡ None → AllByRecursion (Written left) w.drafts
    absent none = all-weaker (λ draft. (is_draft file draft ≡ false) × Written w.handles draft) (Written left) w.drafts (λ draft is. apart draft is.0 is.1) (all-both (λ draft. is_draft file draft ≡ false) (Written w.handles) w.drafts (all-not_found (is_draft file) w.drafts none) have)

    others : AllByRecursion (λ draft. not (is_draft file draft) ≡ true) (remove_first (is_draft file) w.drafts)
    others = rw (remove_first-key (λ (draft : DraftRow). draft.file) file w.drafts (k.holds Drafts).placed) (filter-passes (λ (draft : DraftRow). not (draft.file == file)) w.drafts)

    ended : AllByRecursion (Written left) (remove_first (is_draft file) w.drafts)
    ended = all-weaker (λ draft. (not (is_draft file draft) ≡ true) × Written w.handles draft) (Written left) (remove_first (is_draft file) w.drafts) (λ draft is. apart draft (not-true (is_draft file draft) is.0) is.1) (all-both (λ draft. not (is_draft file draft) ≡ true) (Written w.handles) (remove_first (is_draft file) w.drafts) others (all-remove_first (is_draft file) (Written w.handles) w.drafts have))

-- ---- each event

written : (w : World) (event : Event) → HasParts w → HaveWriters w → AfterAll w (λ answer. HaveWriters (answer.1)) (plan w event)
written w (Close handle) k have = λ read found. (
  λ none. reader w k have handle read found none,
  λ file its. (
    λ other. shared w k have handle read found file its other,
    λ last. (
      λ none. absent w k have handle read found file its none,
      λ draft drafted. (
        λ changed. ended w k have handle read found file its,
        λ same. dropped_too (after_change (after_change w (ShutHandle handle)) (EndDraft file)) file (ended w k have handle read found file its),
      ),
    ),
  ),
)
written w (Abandon handle) k have = λ file writes.
    let read = reads_draft w handle file writes in (
      λ other. shared w k have handle (Draft file) read file refl other,
      λ last. dropped_too (after_change (after_change w (ShutHandle handle)) (EndDraft file)) file (ended w k have handle (Draft file) read file refl),
    )
written w CleanOne k have = (λ none. have, λ key first. dropped_too (after_change w (Take key.file key.number)) key.file have)
written w (OpenWrite path) k have = λ file named handles. (λ one. more w.handles (record { number = w.made.handles + 1; reads = Draft file }) w.drafts have, λ none room. begun w file (w.made.handles + 1) have)
written w (Read source) k have = grind (arith, nat_tests, have)
written w event k have = search (rules, have, more, begun, edited, same_file)

pub drafts_written : (w : World) (event : Event) → HasParts w → HaveWriters w → HaveWriters ((step w event).1)
drafts_written w event k have = in_all w (λ answer. HaveWriters (answer.1)) (plan w event) (λ refusal. have) (written w event k have)

pub runs_have_writers : (w : World) (events : List Event) → AllByRecursion IsEvent events → HasParts w → HaveWriters w → HaveWriters (run_of w events)
runs_have_writers w [] are k have = have
runs_have_writers w (event ∷ events) are k have = runs_have_writers ((step w event).1) events are.1 (step_keeps w event are.0 k) (drafts_written w event k have)
