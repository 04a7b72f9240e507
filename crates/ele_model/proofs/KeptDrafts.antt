-- Changes of drafts and handles keep a world well formed.
use Rattle.ele_model.proofs.Basics.{rules, ◌≡◌, ℕ, ◌+◌, ◌<◌, ◌≤◌, Bool, true, false, List, [], ◌∷◌, length, arith, AllByRecursion, list_any, nat_tests, update_first, remove_first, insert_before, all-push, all-weaker, all-both, later-push}
use Rattle.ele_model.proofs.Basics.{all-remove_first, all-insert_before, later-update_first, later-remove_first, later-insert_before, length-update_first, length-insert_before, length-remove_first-le, all-found, all-none, found_passes}
use Rattle.ele_model.proofs.Basics.{list_any-update_first, list_any-insert_before, list_any-remove_first}
use Rattle.ele_model.proofs.Words.{longest_content, written_short, written_fills, truncated_short, truncated_fills, new_draft, fitted_by, after_change, StartDraft, WriteDraft, TruncateDraft, EndDraft, OpenHandle, ShutHandle, IsDraft, IsReadable}
use Rattle.ele_model.proofs.Words.{IsHeldRead, IsHandle, Part, Versions, Drafts, Readers, Holds, HasParts, World, is_draft, is_draft_after, writes, is_writer, DraftRow, HandleRow, Reads}
use Rattle.ele_model.proofs.May.{MayStart, MayOpen}
use Rattle.ele_model.proofs.Writers.{written_by, truncated_by, written_more}

-- ---- a draft is begun

pub start_keeps : (w : World) (file : ℕ) → MayStart w file → HasParts w → HasParts (after_change w (StartDraft file))
start_keeps w file may k = record { holds = λ part. grind (arith, nat_tests, k.holds part, k.holds Versions, all-found, found_passes, written_more, length-insert_before (is_draft_after file) (new_draft w file) w.drafts, all-insert_before (is_draft_after file) (IsDraft w.files w.now) (new_draft w file) w.drafts, later-insert_before (is_draft_after file) (λ earlier later. earlier.file < later.file) (λ row. is_draft file row ≡ false) (new_draft w file) w.drafts, all-none (is_draft file) w.drafts may.none, all-weaker, readable) } where
  readable : (reads : Reads) → IsReadable w.drafts reads → IsReadable (insert_before (is_draft_after file) (new_draft w file) w.drafts) reads
  readable reads there = grind (arith, nat_tests, list_any-insert_before)

-- ---- a draft is changed

-- what all elements have, after a change of one that passes
all-changed : {X : Type 0} (p : X → Bool) (P : X → Type 0) (f : X → X) (xs : List X) → ((x : X) → p x ≡ true → P x → P (f x)) → AllByRecursion P xs → AllByRecursion P (update_first p f xs)
all-changed p P f [] changes all = tt
all-changed p P f (x ∷ xs) changes all = grind (arith, nat_tests, all-changed p P f xs changes all.1)

-- the file's draft is changed to one of the file
edit_keeps : (w : World) (file : ℕ) (f : DraftRow → DraftRow) → ((row : DraftRow) → (f row).file ≡ row.file) → ((row : DraftRow) → row.file ≡ file → IsDraft w.files w.now row → IsDraft w.files w.now (f row)) → HasParts w → HasParts (record w { drafts = update_first (is_draft file) f w.drafts })
edit_keeps w file f same edits k = record { holds = by } where
  readable : (reads : Reads) → IsReadable w.drafts reads → IsReadable (update_first (is_draft file) f w.drafts) reads
  readable reads there = grind (arith, nat_tests, list_any-update_first)

  by : (part : Part) → Holds (record w { drafts = update_first (is_draft file) f w.drafts }) part
  by Drafts = search (rules, k.holds Drafts, all-changed, later-update_first)
  by part = grind (arith, nat_tests, k.holds part, all-weaker, readable, length-update_first (is_draft file) f w.drafts)

pub write_keeps : (w : World) (file offset : ℕ) (bytes : List ℕ) → offset + length bytes ≤ longest_content → HasParts w → HasParts (after_change w (WriteDraft file offset bytes))
write_keeps w file offset bytes fits k = grind (arith, nat_tests, edit_keeps, written_short, written_fills, written_by)

pub same_file : (number size : ℕ) (row : DraftRow) → (fitted_by number size row).file ≡ row.file
same_file number size row = grind (arith, nat_tests)

pub truncate_keeps : (w : World) (file size : ℕ) → size ≤ longest_content → HasParts w → HasParts (after_change w (TruncateDraft file size))
truncate_keeps w file size fits k = grind (arith, nat_tests, edit_keeps, same_file, truncated_short, truncated_fills, truncated_by)

-- ---- a draft goes that nobody writes

pub end_keeps : (w : World) (file : ℕ) → list_any (is_writer file) w.handles ≡ false → HasParts w → HasParts (after_change w (EndDraft file))
end_keeps w file unwritten k = record { holds = λ part. grind (arith, nat_tests, k.holds part, length-remove_first-le (is_draft file) w.drafts, all-remove_first, later-remove_first, all-weaker (λ row. (is_writer file row ≡ false) × IsHandle w.made.handles w.drafts row), readable, all-both (λ row. is_writer file row ≡ false) (IsHandle w.made.handles w.drafts) w.handles, all-none (is_writer file) w.handles unwritten) } where
  readable : (reads : Reads) → writes file reads ≡ false → IsReadable w.drafts reads → IsReadable (remove_first (is_draft file) w.drafts) reads
  readable reads other there = grind (arith, nat_tests, list_any-remove_first, found_passes)

-- ---- handles

pub open_keeps : (w : World) (number : ℕ) (reads : Reads) → MayOpen w number reads → HasParts w → HasParts (after_change w (OpenHandle number reads))
open_keeps w number reads may k = record { holds = by } where
  by : (part : Part) → Holds (after_change w (OpenHandle number reads)) part
  by Readers = all-push (λ (row : HandleRow). IsHeldRead w.versions row.reads) w.handles (record { number = number; reads = reads }) (k.holds Readers) may.held
  by part = grind (arith, nat_tests, k.holds part, all-push, number, all-weaker, later-push (λ (earlier : HandleRow) later. earlier.number < later.number) w.handles (record { number = number; reads = reads }))

pub shut_keeps : (w : World) (number : ℕ) → HasParts w → HasParts (after_change w (ShutHandle number))
shut_keeps w number k = record { holds = λ part. grind (arith, nat_tests, k.holds part, all-remove_first, later-remove_first) }
