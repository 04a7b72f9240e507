-- What is true of the cells of all versions and drafts is so after each event that writes none, since it makes no others.
use Rattle.ele_model.proofs.Basics.{rules, nat_tests, arith, ◌≡◌, ℕ, ◌-◌, ◌<◌, cond, Bool, true, false, List, [], ◌∷◌, Some, sym, find, AllByRecursion, AllLater, update_first, insert_before, all-both, all-found, all-insert_before, all-remove_first, all-update_first, all-weaker, found_passes}
use Rattle.ele_model.proofs.Words.{World, Cell, HasParts, Drafts, Versions, DropIdle, EndDraft, ShutHandle, Take, after_change, is_draft_after, is_live, is_version_after, with_end, with_version, without_name, version_cells, ended_at, is_draft, is_version, new_draft, next_of, plan, step}
use Rattle.ele_world.proofs.Words.{Event, Close, Abandon, CleanOne, Read, Create, Undelete, Unlink, OpenWrite, Save, Revert, Restore, Write, Truncate, DraftRow, VersionRow, Reads, Draft, Version}
use Rattle.ele_model.specs.OneContent.{file_read}
use Rattle.ele_path.specs.declared.tagged.Tag.TheVariants as tag
use Rattle.ele_model.specs.Change.{ended_if_nameless, next_version}
use Rattle.ele_model.specs.Step.{cells_read}
use Rattle.ele_model.proofs.Dropped.{dropped}
use Rattle.ele_model.proofs.Meant.{IsMeant, is_meant}
use Rattle.ele_model.proofs.PlanOutcomes.{AfterAll, in_all}
use Rattle.ele_model.proofs.Versions.{IsFound, all_found}

-- the event writes bytes: into a draft, or at once into a version
abbrev pub edits : Event → Bool
edits (Write handle offset bytes) = true
edits (Truncate handle size) = true
edits (Save path bytes) = true
edits (Restore path moment) = true
edits _ = false

-- ---- what all have that can be read, all rows have

abbrev IsFoundDraft : List DraftRow → DraftRow → Type 0
IsFoundDraft rows row = find (is_draft row.file) rows ≡ Some row

drafts_found : (rows : List DraftRow) → AllLater (λ earlier later. earlier.file < later.file) rows → AllByRecursion (IsFoundDraft rows) rows
drafts_found [] placed = tt
drafts_found (x ∷ xs) placed = grind (arith, nat_tests, all-weaker (λ y. (x.file < y.file) × IsFoundDraft xs y) (IsFoundDraft (x ∷ xs)) xs, all-both (λ (y : DraftRow). x.file < y.file) (IsFoundDraft xs) xs, drafts_found xs)

module _ (P : ℕ → List Cell → Type 0) (none : (file : ℕ) → P file []) where
  abbrev pub AllRead : World → Type 0
  AllRead w = (read : Reads) → P (file_read read) (cells_read w read)

  abbrev pub OfVersion : VersionRow → Type 0
  OfVersion row = P row.file row.cells

  abbrev pub OfDraft : DraftRow → Type 0
  OfDraft row = P row.file row.cells

  abbrev pub AllRows : World → Type 0
  AllRows w = AllByRecursion OfVersion w.versions × AllByRecursion OfDraft w.drafts

  rows_by : (w : World) → HasParts w → AllRead w → AllRows w
  rows_by w k all = (
    all-weaker (IsFound w.versions) OfVersion w.versions (λ row found. let it = all (Version row.file row.number) in grind (arith, found, it)) (all_found w.versions (k.holds Versions).placed),
    all-weaker (IsFoundDraft w.drafts) OfDraft w.drafts (λ row found. let it = all (Draft row.file) in grind (arith, found, it)) (drafts_found w.drafts (k.holds Drafts).placed),
  )

  read_by : (w : World) → AllRows w → AllRead w
  read_by w all (Draft file) = grind (arith, nat_tests, none, all, all-found, found_passes)
  read_by w all (Version file number) = grind (arith, nat_tests, none, all, all-found, found_passes)

  -- ---- events that write nothing into a draft

  ended : (number : ℕ) (now : ℕ) (file : ℕ) (rows : List VersionRow) → AllByRecursion OfVersion rows → AllByRecursion OfVersion (update_first (is_version file number) (ended_at now) rows)
  ended number now file rows = all-update_first (is_version file number) OfVersion OfVersion (ended_at now) rows (λ row so. so) (λ row so. so)

  pub numbered : (w : World) (file number : ℕ) → AllRows w → P file (version_cells w file number)
  numbered w file number all = grind (arith, nat_tests, none, all, all-found, found_passes)

  pub grown : (w : World) (file opened : ℕ) (cells : List Cell) → P file cells → AllRows w → AllRows (with_version w file opened cells)
  grown w file opened cells one all = (all-insert_before (is_version_after file (next_of w.files file)) OfVersion (next_version w file opened cells) (with_end w file) one (ended (next_of w.files file - 1) w.now file w.versions all.0), all.1)

  drafted : (w : World) (file : ℕ) (draft : DraftRow) → find (is_draft file) w.drafts ≡ Some draft → AllRows w → P file draft.cells
  drafted w file draft found all = grind (arith, nat_tests, all, all-found, found_passes)

  pub meant : (w : World) (file : ℕ) (row : VersionRow) → IsMeant w.versions file row → AllRows w → P file row.cells
  meant w file row is all = rw (sym is.own) (all-found is.passes OfVersion w.versions row is.found all.0)

  undrafted : (w : World) (file : ℕ) → AllRows w → AllRows (after_change w (EndDraft file))
  undrafted w file all = (all.0, all-remove_first (is_draft file) OfDraft w.drafts all.1)

  idle_too : (w : World) (file : ℕ) → AllRows w → AllRows (after_change w (DropIdle file))
  idle_too w file all = dropped AllRows w file (λ idle. all) (λ busy. all)

  nameless : (w : World) (file : ℕ) → AllRows w → AllRows (ended_if_nameless w file)
  nameless w file all = by (is_live w file) where
    by : (b : Bool) → AllByRecursion OfVersion (cond b w.versions (with_end w file)) × AllByRecursion OfDraft w.drafts
    by true = all
    by false = (ended (next_of w.files file - 1) w.now file w.versions all.0, all.1)

  begun : (w : World) (file : ℕ) → AllRows w → AllByRecursion OfDraft (insert_before (is_draft_after file) (new_draft w file) w.drafts)
  begun w file all = all-insert_before (is_draft_after file) OfDraft (new_draft w file) w.drafts (numbered w file (next_of w.files file - 1) all) all.1

  carried : (w : World) (event : Event) → edits event ≡ false → AllRows w → AfterAll w (λ answer. AllRows (answer.1)) (plan w event)
  carried w (Create path) not_edits all = search (rules, none, all, grown)
  carried w (Unlink path) not_edits all = λ at parent file named. nameless (without_name w at.0 at.1) file all
  carried w (Undelete path) not_edits all = search (rules, all, numbered, grown)
  carried w (OpenWrite path) not_edits all = search (rules, all, begun)
  carried w (Close handle) not_edits all = λ read found. (
    λ reader. all,
    λ file writes. (
      λ other. all,
      λ last. (
        λ none_found. all,
        λ draft is. (
          λ changed. grown (after_change (after_change w (ShutHandle handle)) (EndDraft file)) file draft.opened draft.cells (drafted w file draft is all) (undrafted w file all),
          λ same. idle_too (after_change (after_change w (ShutHandle handle)) (EndDraft file)) file (undrafted w file all),
        ),
      ),
    ),
  )
  carried w (Abandon handle) not_edits all = λ file writes. (λ other. all, λ last. idle_too (after_change (after_change w (ShutHandle handle)) (EndDraft file)) file (undrafted w file all))
  carried w (Revert path number) not_edits all = λ file named row is undrafted room. grown w file w.now row.cells (meant w file row (is_meant w.files w.versions file (tag.Number number) row is) all) all
  carried w CleanOne not_edits all = (λ nothing. all, λ key first. idle_too (after_change w (Take key.file key.number)) key.file (all-remove_first (is_version key.file key.number) OfVersion w.versions all.0, all.1))
  carried w (Read source) not_edits all = grind (arith, nat_tests, all)
  carried w event not_edits all = search (rules, all)

  pub carries_by : (w v : World) → HasParts w → (AllRows w → AllRows v) → AllRead w → AllRead v
  carries_by w v k goes all = read_by v (goes (rows_by w k all))

  pub carries : (w : World) (event : Event) → HasParts w → edits event ≡ false → AllRead w → AllRead ((step w event).1)
  carries w event k not_edits = carries_by w ((step w event).1) k (λ rows. in_all w (λ answer. AllRows (answer.1)) (plan w event) (λ refusal. rows) (carried w event not_edits rows))
