-- A place has one content, after each event and so in every run.
use Rattle.ele_model.proofs.Basics.{nat_tests, arith, ◌≡◌, ℕ, ◌+◌, ◌-◌, ◌<◌, ◌≤◌, ◌==◌, ◌∙◌, ◌⊎◌, length, Bool, true, false, List, [], ◌∷◌, Some, refl, subst, sym, AllByRecursion, update_first, inl, inr, slice_get, all-found, all-none, found_passes, find-insert_before, find-update_other, not_found, option_map_or}
use Rattle.ele_model.proofs.Words.{World, IsEvent, Cell, Policy, HasParts, Drafts, Versions, Append, MakeFile, Revive, WriteDraft, TruncateDraft, after_change, AreWrittenBy, IsContent, cells_by, content_of, changed_by, default_of, ended_at, fitted_by, has_draft, is_draft, is_version, is_version_after, next_of, next_version, plan, run_of, save_new_plan, step, version_cells, with_end, with_file, with_name, with_version}
use Rattle.ele_world.proofs.Words.{Event, Save, Restore, Write, Truncate, DraftRow, VersionRow, Reads, Draft, Version, File}
use Rattle.ele_model.specs.OneContent.{file_read, Agree, HasOneContent}
use Rattle.ele_lists.proofs.Alls.{all-got}
use Rattle.ele_model.specs.Step.{cells_read}
use Rattle.ele_model.proofs.Allowed.{allowed}
use Rattle.ele_model.proofs.Created.{made_next, undrafted_yet}
use Rattle.ele_model.proofs.Elements.{find-update_still, find-updated}
use Rattle.ele_model.proofs.Keeps.{event_keeps}
use Rattle.ele_model.proofs.May.{MayPlan}
use Rattle.ele_model.proofs.Meant.{IsMeant, own_is, then_is}
use Rattle.ele_model.proofs.NextVersion.{new_found}
use Rattle.ele_model.proofs.KeptDrafts.{same_file}
use Rattle.ele_model.proofs.PlanOutcomes.{AfterAll, in_all}
use Rattle.ele_world.proofs.SlotsKept.{IsRewritten, cell_written, cell_fitted}
use Rattle.ele_model.proofs.StepKeeps.{step_keeps}
use Rattle.ele_world.proofs.CellsStay.{AllRead, edits, carries, carries_by, grown, meant, numbered}

-- ---- what writes none

-- what is true of all contents, if it is true of none, is true after
abbrev Carries : World → World → Type 1
Carries w v = (P : ℕ → List Cell → Type 0) (none : (file : ℕ) → P file []) → AllRead P none w → AllRead P none v

-- once for each of two
others_by : (w v : World) → Carries w v → HasOneContent w → HasOneContent v
others_by w v carry have one other same =
    let first = λ (before : Reads). carry (λ file cells. file ≡ file_read before → Agree cells (cells_read w before)) (λ file its slot cell twin found. absurd cc) (λ read its. have read before its) in
    carry (λ file cells. file_read one ≡ file → Agree (cells_read v one) cells) (λ file its slot cell twin found here. absurd cc) (λ before its. first before one its) other same

others : (w : World) (event : Event) → HasParts w → edits event ≡ false → HasOneContent w → HasOneContent ((step w event).1)
others w event k not_edits = others_by w ((step w event).1) (λ P none. carries P none w event k not_edits)

-- a version again, of the same file
again : (w : World) (file : ℕ) (row : VersionRow) → HasParts w → IsMeant w.versions file row → HasOneContent w → HasOneContent (after_change w (Append file w.now row.cells))
again w file row k is = others_by w (after_change w (Append file w.now row.cells)) (λ P none. carries_by P none w (after_change w (Append file w.now row.cells)) k (λ rows. grown P none w file w.now row.cells (meant P none w file row is rows) rows))

revived : (w : World) (directory : ℕ) (name : List ℕ) (file number : ℕ) → HasParts w → HasOneContent w → HasOneContent (after_change w (Revive directory name file number))
revived w directory name file number k =
    let v : World = after_change w (Revive directory name file number) in
    others_by w v (λ P none. carries_by P none w v k (λ rows. grown P none (with_name w directory name (File file)) file w.now (version_cells w file number) (numbered P none w file number rows) rows))

made : (w : World) (directory : ℕ) (name : List ℕ) (id : ℕ) (policy : Policy) → HasParts w → HasOneContent w → HasOneContent (after_change w (MakeFile directory name id policy))
made w directory name id policy k =
    let v : World = after_change w (MakeFile directory name id policy) in
    others_by w v (λ P none. carries_by P none w v k (λ rows. grown P none (with_name (with_file w id policy) directory name (File id)) id w.now [] (none id) rows))

-- ---- a write and a truncate

written_at : (number : ℕ) (cells : List Cell) (slot : ℕ) (cell : Cell) → AreWrittenBy number cells → slice_get cells slot ≡ Some cell → cell.writer ≤ number
written_at number cells slot cell all found = all-got (λ cell. cell.writer ≤ number) cells slot cell all found

module _ (w : World) (k : HasParts w) (have : HasOneContent w) where
  by_earlier : (file number slot : ℕ) (cell : Cell) → slice_get (cells_read w (Version file number)) slot ≡ Some cell → cell.writer < next_of w.files file
  by_earlier file number slot cell found = grind (arith, nat_tests, k.holds Versions, all-found, found_passes, written_at)

  module _ (file : ℕ) (f : DraftRow → DraftRow) (own : (row : DraftRow) → (f row).file ≡ row.file) (rewrites : (row : DraftRow) → IsContent row.cells → (slot : ℕ) (cell : Cell) → slice_get (f row).cells slot ≡ Some cell → IsRewritten (next_of w.files file) row.cells slot cell) where
    abbrev edited : World
    edited = record w { drafts = update_first (is_draft file) f w.drafts }

    rewritten : (slot : ℕ) (cell : Cell) → slice_get (cells_read edited (Draft file)) slot ≡ Some cell → IsRewritten (next_of w.files file) (cells_read w (Draft file)) slot cell
    rewritten slot cell found = grind (arith, nat_tests, k.holds Drafts, own, rewrites, find-updated (is_draft file) f w.drafts, all-found)

    half : (of number : ℕ) → Agree (cells_read edited (Draft of)) (cells_read w (Version of number))
    half of number = by (of == file) refl where
      by : (b : Bool) → (of == file) ≡ b → Agree (cells_read edited (Draft of)) (cells_read w (Version of number))
      by true is slot cell other found there writers = grind (arith, nat_tests, have (Draft file) (Version file number) refl slot cell other, by_earlier file number slot other, rewritten slot cell)
      by false apart slot cell other found there writers = have (Draft of) (Version of number) refl slot cell other (rw (sym (find-update_other (is_draft file) (is_draft of) f w.drafts (λ row is. grind (arith, nat_tests, is, apart, own row)))) found) there writers

    edit_stays : HasOneContent edited
    edit_stays (Draft of) (Draft other) same = rw same (λ slot cell twin found there writers. grind (arith, found, there))
    edit_stays (Draft of) (Version other number) same = rw same (half other number)
    edit_stays (Version of number) (Draft other) same = rw same (λ slot cell twin found there writers. sym (half other number slot twin cell there found (sym writers)))
    edit_stays (Version of number) (Version other later) same = have (Version of number) (Version other later) same

  lays : (file offset : ℕ) (bytes : List ℕ) → HasOneContent (after_change w (WriteDraft file offset bytes))
  lays file offset bytes = edit_stays file (changed_by (next_of w.files file) offset bytes) (λ row. refl) (λ row is slot cell. cell_written (next_of w.files file) offset bytes row.cells slot cell is.slots)

  fits : (file size : ℕ) → HasOneContent (after_change w (TruncateDraft file size))
  fits file size = edit_stays file (fitted_by (next_of w.files file) size) (same_file (next_of w.files file) size) (λ row is slot cell. by row is slot cell (length (content_of row.cells) == size) refl) where
    by : (row : DraftRow) → IsContent row.cells → (slot : ℕ) (cell : Cell) (b : Bool) → (length (content_of row.cells) == size) ≡ b → slice_get (fitted_by (next_of w.files file) size row).cells slot ≡ Some cell → IsRewritten (next_of w.files file) row.cells slot cell
    by row is slot cell true same = rw same (λ found. inr found)
    by row is slot cell false other = rw other (cell_fitted (next_of w.files file) size row.cells slot cell is.slots)

-- ---- bytes are saved

module _ (w : World) (k : HasParts w) (have : HasOneContent w) (file opened : ℕ) (bytes : List ℕ) (undrafted : has_draft w file ≡ false) where
  abbrev next : ℕ
  next = next_of w.files file

  abbrev cells : List Cell
  cells = cells_by next bytes

  abbrev saved : World
  saved = with_version w file opened cells

  -- each other content is as it was
  still : (read : Reads) → (cells_read saved read ≡ cells_read w read) ⊎ ((file_read read ≡ file) × (cells_read saved read ≡ cells))
  still (Draft of) = inl refl
  still (Version of number) = by (is_version of number (next_version w file opened cells)) refl where
    by : (b : Bool) → is_version of number (next_version w file opened cells) ≡ b → (cells_read saved (Version of number) ≡ cells_read w (Version of number)) ⊎ ((of ≡ file) × (cells_read saved (Version of number) ≡ cells))
    by true is =
        let own : of ≡ file = grind (arith, nat_tests, is) in
        let its : number ≡ next = grind (arith, nat_tests, is) in
        inr (own, rw (own, its, new_found w file (k.holds Versions).each opened cells) refl)
    by false other = inl (rw (find-insert_before (is_version_after file next) (is_version of number) (next_version w file opened cells) (with_end w file) other)
        (find-update_still (is_version file (next - 1)) (is_version of number) (λ o. option_map_or (λ row. row.cells) o []) (ended_at w.now) w.versions (λ row. refl) (λ row. refl)))

  -- no other has a slot that this version wrote
  earlier : (read : Reads) (slot : ℕ) (cell : Cell) → file_read read ≡ file → slice_get (cells_read w read) slot ≡ Some cell → cell.writer < next
  earlier (Draft of) slot cell same found = absurd (grind (arith, nat_tests, same, found, undrafted, not_found (is_draft file) w.drafts, all-none (is_draft file) w.drafts undrafted))
  earlier (Version of number) slot cell same found = rw (← same) (by_earlier w k have of number slot cell found)

  own : (slot : ℕ) (cell : Cell) → slice_get cells slot ≡ Some cell → cell.writer ≡ next
  own slot cell found = by (cell_written next 0 bytes [] slot cell refl found) where
    by : IsRewritten next [] slot cell → cell.writer ≡ next
    by (inl is) = is
    by (inr was) = absurd cc

  abbrev As : Reads → Type 0
  As read = (cells_read saved read ≡ cells_read w read) ⊎ ((file_read read ≡ file) × (cells_read saved read ≡ cells))

  save_stays : HasOneContent saved
  save_stays one other same slot cell twin found there writers = by (still one) (still other) where
    by : As one → As other → cell.bytes ≡ twin.bytes
    by (inl a) (inl b) = have one other same slot cell twin (rw (← a) found) (rw (← b) there) writers
    by (inl a) (inr b) =
        let less = earlier one slot cell (same ∙ b.0) (rw (← a) found) in
        let mine = own slot twin (rw (← b.1) there) in
        absurd (omega (arith, less, mine, writers))
    by (inr a) (inl b) =
        let less = earlier other slot twin (sym same ∙ a.0) (rw (← b) there) in
        let mine = own slot cell (rw (← a.1) found) in
        absurd (omega (arith, less, mine, writers))
    by (inr a) (inr b) = grind (arith, found, there, a.1, b.1)

-- a new file, and then its second version
saved_new : (event : Event) (w : World) (at : ℕ × List ℕ) (bytes : List ℕ) → IsEvent event → MayPlan event w (save_new_plan w at bytes) → HasParts w → HasOneContent w → AfterAll w (λ answer. HasOneContent (answer.1)) (save_new_plan w at bytes)
saved_new event w at bytes is may k have = λ files names versions.
    let id = w.made.files + 1 in
    let policy = default_of w.directories at.0 in
    let c = MakeFile at.0 at.1 id policy in
    let v : World = after_change w c in
    subst (λ n. HasOneContent (with_version v id w.now (cells_by n bytes))) (made_next w at.0 at.1 policy k)
    (save_stays v (event_keeps event w w c is (may files names versions).0 k) (made w at.0 at.1 id policy k have) id w.now bytes (undrafted_yet w k))

restored : (w : World) (path : List (List ℕ)) (moment : ℕ) → HasParts w → HasOneContent w → AfterAll w (λ answer. HasOneContent (answer.1)) (plan w (Restore path moment))
restored w path moment k have = λ row was at found standing stood.
    let may = allowed w (Restore path moment) k row was at found standing stood in
    let is = then_is w path moment row was in (
      λ none. (
        λ live. saved_new (Restore path moment) w at (content_of row.cells) tt ((may.0 none).0 live) k have,
        λ nameless drafts names versions. revived w at.0 at.1 row.file row.number k have,
      ),
      λ file its. (
        λ own drafts versions. again w file row k (own_is w file row own is) have,
        λ other drafts versions. save_stays w k have file w.now (content_of row.cells) drafts,
      ),
    )

-- ---- each event

pub one_content_stays : (w : World) (event : Event) → HasParts w → HasOneContent w → HasOneContent ((step w event).1)
one_content_stays w (Save path bytes) k have = in_all w (λ answer. HasOneContent (answer.1)) (plan w (Save path bytes)) (λ refusal. have) (λ at found standing stood fits. (
  λ none. saved_new (Save path bytes) w at bytes tt ((allowed w (Save path bytes) k at found standing stood fits).0 none) k have,
  λ file is drafts versions. save_stays w k have file w.now bytes drafts,
))
one_content_stays w (Restore path moment) k have = in_all w (λ answer. HasOneContent (answer.1)) (plan w (Restore path moment)) (λ refusal. have) (restored w path moment k have)
one_content_stays w (Write handle offset bytes) k have = in_all w (λ answer. HasOneContent (answer.1)) (plan w (Write handle offset bytes)) (λ refusal. have) (λ file named. (λ nothing. have, λ some long. lays w k have file offset bytes))
one_content_stays w (Truncate handle size) k have = in_all w (λ answer. HasOneContent (answer.1)) (plan w (Truncate handle size)) (λ refusal. have) (λ file named long. fits w k have file size)
one_content_stays w event k have = others w event k refl have

pub runs_have_one : (w : World) (events : List Event) → AllByRecursion IsEvent events → HasParts w → HasOneContent w → HasOneContent (run_of w events)
runs_have_one w [] are k have = have
runs_have_one w (event ∷ events) are k have = runs_have_one ((step w event).1) events are.1 (step_keeps w event are.0 k) (one_content_stays w event k have)
