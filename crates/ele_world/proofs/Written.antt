-- What handles read: a draft that begins or is written, or the version that was meant.
use Rattle.ele_model.proofs.Basics.{nat_tests, arith, ◌≡◌, ℕ, ◌+◌, ◌==◌, Bool, true, false, List, [], ◌∷◌, ◌++◌, length, Ok, refl, all-found, all-none, all-weaker, find-append, find-inserted, find-remove_first, find-update_other, list_any, not_found, update_first, insert_before, remove_first, take_all, append-nil, rules}
use Rattle.ele_model.proofs.Words.{World, HasParts, IsHandle, Handles, ShutHandle, WriteDraft, TruncateDraft, DropIdle, EndDraft, Take, after_change, changed_by, content_of, file_by, file_now, fitted_by, has_draft, is_draft, is_draft_after, is_handle, new_draft, next_of, plan, reads_by, TaggedPath, step}
use Rattle.ele_world.proofs.Words.{Event, Close, Abandon, Read, DraftRow, HandleRow, Reads, Draft, CleanOne, Done, Write}
use Rattle.ele_content.specs.Content.{content_after_write, content_after_truncate}
use Rattle.ele_content.proofs.Contents.{content_of-written, content_of-truncated}
use Rattle.ele_lists.proofs.Cuts.{any-found as first_passing}
use Rattle.ele_world.specs.DraftBegins.{BeginsDraft}
use Rattle.ele_world.specs.HandleReads.{ReadsMeant}
use Rattle.ele_world.specs.HandleStays.{closes}
use Rattle.ele_world.specs.WriteLays.{ChangesDraft}
use Rattle.ele_model.proofs.Currents.{has_current}
use Rattle.ele_model.proofs.Dropped.{dropped}
use Rattle.ele_model.proofs.Elements.{find-updated}
use Rattle.ele_model.proofs.KeptDrafts.{same_file}
use Rattle.ele_model.proofs.Readers.{has_row}
use Rattle.ele_model.proofs.PlanOutcomes.{AfterAll, in_all}
use Rattle.ele_model.proofs.Walks.{file_live}
use Rattle.ele_model.specs.declared.reply.Reply.TheVariants as told
use Rattle.ele_model.specs.declared.event.Event.TheVariants as asked

-- ---- handles

-- a new handle reads what it was opened for
pub new_reads : (w : World) (reads : Reads) → HasParts w → reads_by (w.handles ++ record { number = w.made.handles + 1; reads = reads } ∷ []) (w.made.handles + 1) ≡ Ok reads
new_reads w reads k = grind (arith, nat_tests, find-append, k.holds Handles, not_found (is_handle (w.made.handles + 1)) w.handles, all-weaker (IsHandle w.made.handles w.drafts) (λ row. is_handle (w.made.handles + 1) row ≡ false) w.handles)

pub handle_reads : (w : World) (tagged : TaggedPath) (handle : ℕ) → HasParts w → (step w (asked.OpenRead tagged)).0 ≡ told.Handle handle → ReadsMeant w tagged handle ((step w (asked.OpenRead tagged)).1)
handle_reads w tagged handle k = grind (arith, nat_tests, in_all, new_reads w)

-- each other one what it read
module _ (w : World) (handle : ℕ) (reads : Reads) (its : reads_by w.handles handle ≡ Ok reads) where
  opened : (row : HandleRow) → reads_by (w.handles ++ row ∷ []) handle ≡ Ok reads
  opened row = grind (arith, nat_tests, find-append, its)

  shut : (other : ℕ) → (other == handle) ≡ false → reads_by (remove_first (is_handle other) w.handles) handle ≡ Ok reads
  shut other apart = grind (arith, nat_tests, its, find-remove_first (is_handle other) (is_handle handle) w.handles)

  abbrev Reading : World → Type 0
  Reading v = reads_by v.handles handle ≡ Ok reads

  kept : (v : World) → v.handles ≡ w.handles → Reading v
  kept v same = rw same its

  dropped_reads : (u : World) (file : ℕ) → reads_by u.handles handle ≡ Ok reads → Reading (after_change u (DropIdle file))
  dropped_reads u file so = dropped Reading u file (λ idle. so) (λ busy. so)

  stays : (event : Event) → closes handle event ≡ false → AfterAll w (λ answer. Reading (answer.1)) (plan w event)
  stays (Close other) apart = λ read found. (λ none. shut other apart, λ file writes. (λ shared. shut other apart, λ last. (λ none. shut other apart, λ draft drafted. (λ changed. shut other apart, λ same. dropped_reads (after_change (after_change w (ShutHandle other)) (EndDraft file)) file (shut other apart)))))
  stays (Abandon other) apart = λ file writes. (λ shared. shut other apart, λ last. dropped_reads (after_change (after_change w (ShutHandle other)) (EndDraft file)) file (shut other apart))
  stays CleanOne apart = (λ none. its, λ key first. dropped_reads (after_change w (Take key.file key.number)) key.file its)
  stays (Read source) apart = grind (arith, nat_tests, its)
  stays event apart = search (rules, its, opened)

pub handle_stays : (w : World) (event : Event) (handle : ℕ) (reads : Reads) → HasParts w → closes handle event ≡ false → reads_by w.handles handle ≡ Ok reads → reads_by ((step w event).1).handles handle ≡ Ok reads
handle_stays w event handle reads k apart its = in_all w (λ answer. reads_by (answer.1).handles handle ≡ Ok reads) (plan w event) (λ refusal. its) (stays w handle reads its event apart)

-- ---- a draft begins

begins : (w : World) (path : List (List ℕ)) → HasParts w → (file : ℕ) → file_now w.names path ≡ Ok file → (v : World) → v.handles ≡ w.handles ++ record { number = w.made.handles + 1; reads = Draft file } ∷ [] → (has_draft w file ≡ true → v.drafts ≡ w.drafts) → (has_draft w file ≡ false → v.drafts ≡ insert_before (is_draft_after file) (new_draft w file) w.drafts) → BeginsDraft w path (w.made.handles + 1) v
begins w path k file named v handles there begun =
    let current = has_current w file k (file_live w.names path file named) in
    let reads : reads_by v.handles (w.made.handles + 1) ≡ Ok (Draft file) = rw handles (new_reads w (Draft file) k) in
    record {
      file = file;
      current = current.row;
      named = named;
      is = current.found;
      writes = grind (arith, reads);
      first = λ none. grind (arith, nat_tests, reads, begun none, current.found, all-none (is_draft file) w.drafts none, find-inserted (is_draft_after file) (is_draft file) (new_draft w file) w.drafts);
      later = λ one. grind (arith, reads, there one);
    }

pub draft_begins : (w : World) (path : List (List ℕ)) (handle : ℕ) → HasParts w → (step w (asked.OpenWrite path)).0 ≡ told.Handle handle → BeginsDraft w path handle ((step w (asked.OpenWrite path)).1)
draft_begins w path handle k = grind (arith, nat_tests, in_all, begins w path k)

-- ---- a write and a truncate

module _ (w : World) (handle file : ℕ) (k : HasParts w) (written : file_by w.handles handle ≡ Ok file) where
  drafted : list_any (is_draft file) w.drafts ≡ true
  drafted = grind (arith, nat_tests, k.holds Handles, written, has_row w handle (Draft file), all-found (is_handle handle) (IsHandle w.made.handles w.drafts) w.handles)

  changes : (f : DraftRow → DraftRow) (becomes : List ℕ → List ℕ) → ((row : DraftRow) → (f row).file ≡ row.file) → ((row : DraftRow) → (f row).opened ≡ row.opened) → ((row : DraftRow) → content_of (f row).cells ≡ becomes (content_of row.cells)) → ChangesDraft w handle becomes (record w { drafts = update_first (is_draft file) f w.drafts })
  changes f becomes own opened content =
      let was = first_passing (is_draft file) w.drafts drafted in
      record {
        file = file;
        was = was.0;
        is = f was.0;
        written = written;
        found = was.1;
        changed = grind (arith, nat_tests, find-updated (is_draft file) f w.drafts, own, was.1);
        opened = opened was.0;
        content = content was.0;
        others = λ other apart. find-update_other (is_draft file) (is_draft other) f w.drafts (λ row is. grind (arith, nat_tests, is, apart, own row));
        rest = refl;
      }

laid : (w : World) (handle offset : ℕ) (bytes : List ℕ) → HasParts w → (file : ℕ) → file_by w.handles handle ≡ Ok file → ChangesDraft w handle (λ content. content_after_write content offset bytes) (after_change w (WriteDraft file offset bytes))
laid w handle offset bytes k file written = changes w handle file k written (changed_by (next_of w.files file) offset bytes) (λ content. content_after_write content offset bytes) (λ row. refl) (λ row. refl) (λ row. content_of-written (next_of w.files file) offset bytes row.cells)

pub write_lays : (w : World) (handle offset : ℕ) (bytes : List ℕ) → HasParts w → (step w (asked.Write handle offset bytes)).0 ≡ told.Done
    → ((length bytes == 0) ≡ true → (step w (asked.Write handle offset bytes)).1 ≡ w)
    × ((length bytes == 0) ≡ false → ChangesDraft w handle (λ content. content_after_write content offset bytes) ((step w (asked.Write handle offset bytes)).1))
write_lays w handle offset bytes k = in_all w (λ answer. answer.0 ≡ Done → ((length bytes == 0) ≡ true → answer.1 ≡ w) × ((length bytes == 0) ≡ false → ChangesDraft w handle (λ content. content_after_write content offset bytes) (answer.1))) (plan w (Write handle offset bytes)) (λ refusal told. absurd cc) (λ file written. grind (arith, nat_tests, laid w handle offset bytes k file written))

fitted : (number size : ℕ) (row : DraftRow) → content_of (fitted_by number size row).cells ≡ content_after_truncate (content_of row.cells) size
fitted number size row = by (length (content_of row.cells) == size) refl where
  by : (b : Bool) → (length (content_of row.cells) == size) ≡ b → content_of (fitted_by number size row).cells ≡ content_after_truncate (content_of row.cells) size
  by true is = grind (arith, nat_tests, is, take_all size (content_of row.cells), append-nil (content_of row.cells))
  by false is = rw is (content_of-truncated number size row.cells)

fits : (w : World) (handle size : ℕ) → HasParts w → (file : ℕ) → file_by w.handles handle ≡ Ok file → ChangesDraft w handle (λ content. content_after_truncate content size) (after_change w (TruncateDraft file size))
fits w handle size k file written = changes w handle file k written (fitted_by (next_of w.files file) size) (λ content. content_after_truncate content size) (same_file (next_of w.files file) size) (λ row. grind (arith, nat_tests)) (fitted (next_of w.files file) size)

pub truncate_fits : (w : World) (handle size : ℕ) → HasParts w → (step w (asked.Truncate handle size)).0 ≡ told.Done → ChangesDraft w handle (λ content. content_after_truncate content size) ((step w (asked.Truncate handle size)).1)
truncate_fits w handle size k = grind (arith, nat_tests, in_all, fits w handle size k)
