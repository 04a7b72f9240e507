-- The infos of versions and drafts, as the log of their file shows it: the version that a tag means, the newest, the next closing.
use Rattle.ele_files.proofs.Words.{AllByRecursion, AllSessions, Bool, Err, File, Keeps, List, LivesIn, LogRow, None, Ok, Option, Refusal, Some, VersionInfo, Store, Tag, VersionRow, [], all_found, ap, arith, eqb, false≢true, file_row, filter, filter-buckets, find, find-filter, find-map, flat_map, found_passes, had_closed, had_life, has_closed_by, held_or_forgotten, is_before, is_id, has_number, is_version, is_version_of, last_number, last_passing, lives_at, map, nat_tests, option_map, option_map_or, refl, result_map_both, row_in, row_living, row_meant, row_numbered, rows_in, stamps_in, info_of, sym, told_or_forgotten, true, version_living, version_meant, version_numbered, ℕ, ◌-◌, ◌∙◌, ◌∷◌, ◌≡◌, Bor, Draft, Layout, cells_of_version, draft_in, held_in, is_some, is_some-copied, list_any, option_copied, shown, IsFileKept, IsRowOf, all-weaker, filter-all, is_after, is_newer_of, newest_of, next_closing}
use Rattle.ele_files.proofs.Rows.{file_of, next_found, tagged, version_of, any_draft}
use Rattle.ele_files.proofs.Stock.{logs_live, row_lives}
use Rattle.ele_model.specs.World.{is_draft}
use Rattle.ele_path.specs.declared.tagged.Tag.TheVariants as tag
use Rattle.ele_model.specs.Tagged as world
use Rattle.ele_sessions.specs.Sessions as sessions

-- ---- the last that passes, through a filter and a map

last-filter : {X : Type 0} (p q : X → Bool) (xs : List X) → ((x : X) → p x ≡ true → q x ≡ true) → last_passing p (filter q xs) ≡ last_passing p xs
last-filter p q [] own = refl
last-filter {X} p q (x ∷ xs) own = grind (arith, nat_tests, false≢true, last-filter p q xs own)

pub last-map : {X Y : Type 0} (p : Y → Bool) (h : X → Y) (q : X → Bool) (xs : List X) → ((x : X) → p (h x) ≡ q x) → last_passing p (map h xs) ≡ option_map h (last_passing q xs)
last-map p h q [] same = refl
last-map p h q (x ∷ xs) same = grind (arith, nat_tests, last-map p h q xs same)

-- the last of all that pass
abbrev last : {X : Type 0} → List X → Option X
last xs = last_passing (λ _. true) xs

pub last-kept : {X : Type 0} (p : X → Bool) (xs : List X) → last (filter p xs) ≡ last_passing p xs
last-kept p [] = refl
last-kept {X} p (x ∷ xs) = grind (arith, nat_tests, last-kept p xs)

-- ---- the world's look-ups, as those of the log

module _ (s : Store) (files : List File) (a : AllSessions) (kept : Keeps s files a) (file : ℕ) where
  abbrev versions : List VersionRow
  versions = flat_map (rows_in s) files

  -- a file that isn't there has none
  pub none_shown : find (is_id file) files ≡ None → filter (is_version_of file) versions ≡ []
  none_shown none = filter-buckets (λ (f : File). f.id) (rows_in s) file_of (tagged s) file files kept.rise ∙ ap (λ o. option_map_or (rows_in s) o []) none

  -- so none lived then
  pub none_lived : (moment : ℕ) → find (is_id file) files ≡ None → find (had_life file moment) versions ≡ None
  none_lived moment none = sym (find-filter (had_life file moment) (is_version_of file) versions (λ row e. grind (arith, nat_tests))) ∙ ap (find (had_life file moment)) (none_shown none)

  -- the last of the infos of the file's versions
  pub newest_told : option_map info_of (newest_of versions file) ≡ last (map info_of (filter (is_version_of file) versions))
  newest_told = ap (option_map info_of) (sym (last-kept (is_version_of file) versions)) ∙ sym (last-map (λ _. true) info_of (λ _. true) (filter (is_version_of file) versions) (λ row. refl))

  pub closing_none : (number : ℕ) → find (is_id file) files ≡ None → next_closing versions file number ≡ None
  closing_none number none = ap (option_map (λ (row : VersionRow). row.closed)) (sym (find-filter (is_newer_of file number) (is_version_of file) versions (λ row e. grind (arith, nat_tests))) ∙ ap (find (is_newer_of file number)) (none_shown none))

  module _ (f : File) (found : find (is_id file) files ≡ Some f) where
    -- the file's versions are what its log shows
    pub own_rows : filter (is_version_of file) versions ≡ rows_in s f
    own_rows = filter-buckets (λ (f : File). f.id) (rows_in s) file_of (tagged s) file files kept.rise ∙ ap (λ o. option_map_or (rows_in s) o []) found

    pub own : eqb f.id file ≡ true
    own = found_passes (is_id file) files f found

    pub find_shown : (p : VersionRow → Bool) (q : LogRow → Bool) → ((row : VersionRow) → p row ≡ true → is_version_of file row ≡ true) → ((row : LogRow) → p (row_in s f.id row) ≡ q row)
        → find p versions ≡ option_map (row_in s f.id) (find q f.log.rows)
    find_shown p q its same = grind (arith, nat_tests, find-filter, own_rows, find-map)

    last_shown : (p : VersionRow → Bool) (q : LogRow → Bool) → ((row : VersionRow) → p row ≡ true → is_version_of file row ≡ true) → ((row : LogRow) → p (row_in s f.id row) ≡ q row)
        → last_number p versions ≡ option_map (λ (row : LogRow). row.number) (last_passing q f.log.rows)
    last_shown p q its same = rw (← last-filter p (is_version_of file) versions its, own_rows, last-map p (row_in s f.id) q f.log.rows same) (grind arith)

    told : (q r : LogRow → Bool) (o : Option LogRow) → find q f.log.rows ≡ o
        → result_map_both info_of (λ (refusal : Refusal). refusal) (held_or_forgotten (option_map (row_in s f.id) o) (option_map (λ (row : LogRow). row.number) (last_passing r f.log.rows))) ≡ told_or_forgotten o (last_passing r f.log.rows)
    told q r x2 is = grind (arith, nat_tests, row_lives)

    numbered_shown : (number : ℕ) → result_map_both info_of (λ (refusal : Refusal). refusal) (version_numbered versions file number) ≡ row_numbered f number
    numbered_shown number = rw (find_shown (is_version file number) (has_number number) (λ row e. grind (arith, nat_tests)) (λ row. rw own refl), last_shown (world.is_before file number) (is_before number) (λ row e. grind (arith, nat_tests)) (λ row. rw own refl))
        (told (has_number number) (is_before number) (find (has_number number) f.log.rows) refl)

    living_shown : (moment : ℕ) → result_map_both info_of (λ (refusal : Refusal). refusal) (version_living versions file moment) ≡ row_living f moment
    living_shown moment = rw (find_shown (had_life file moment) (lives_at moment) (λ row e. grind (arith, nat_tests)) (λ row. rw own refl), last_shown (had_closed file moment) (has_closed_by moment) (λ row e. grind (arith, nat_tests)) (λ row. rw own refl))
        (told (lives_at moment) (has_closed_by moment) (find (lives_at moment) f.log.rows) refl)

    -- and that which lived at the moment
    pub at_shown : (moment : ℕ) → option_map info_of (find (had_life file moment) versions) ≡ option_map stamps_in (find (lives_at moment) f.log.rows)
    at_shown moment = rw (find_shown (had_life file moment) (lives_at moment) (λ row e. grind (arith, nat_tests)) (λ row. rw own refl)) (grind (arith, nat_tests, row_lives))

    -- what the tag means of the file
    pub meant_shown : (t : Tag) → result_map_both info_of (λ (refusal : Refusal). refusal) (version_meant (map file_row files) versions file t) ≡ row_meant f t
    meant_shown tag.Now = rw (next_found files file (Some f) found) (numbered_shown (f.next - 1))
    meant_shown (tag.At moment) = living_shown moment
    meant_shown (tag.Number number) = rw (next_found files file (Some f) found) (grind (arith, numbered_shown number))

    -- the info of each
    pub list_shown : map info_of (filter (is_version_of file) versions) ≡ map stamps_in f.log.rows
    list_shown = ap (map info_of) own_rows ∙ each f.log.rows (all_found (is_id file) (λ f. AllByRecursion (λ (row : LogRow). LivesIn s row.cells) f.log.rows) files f found (logs_live s files a kept)) where
      each : (rows : List LogRow) → AllByRecursion (λ (row : LogRow). LivesIn s row.cells) rows → map info_of (map (row_in s f.id) rows) ≡ map stamps_in rows
      each [] all = refl
      each (row ∷ rows) all = rw (kept.laws.long s row.cells all.0, each rows all.1) refl

    -- the info and the cells of a version
    pub stamps_shown : (number : ℕ) (o : Option LogRow) → find (has_number number) f.log.rows ≡ o → option_map info_of (find (is_version file number) versions) ≡ option_map stamps_in o
    stamps_shown number o is = rw (version_of s file number files kept.rise f found, is) (grind (arith, nat_tests, row_lives))

    pub cells_none : (number : ℕ) → find (has_number number) f.log.rows ≡ None → cells_of_version (held_in s files a) file number ≡ []
    cells_none number none = rw (version_of s file number files kept.rise f found, none) refl

    pub cells_some : (number : ℕ) (row : LogRow) → find (has_number number) f.log.rows ≡ Some row → cells_of_version (held_in s files a) file number ≡ shown s row.cells
    cells_some number row is = rw (version_of s file number files kept.rise f found, is) refl

    -- all rows are before the next number
    before_next : filter (is_before f.next) f.log.rows ≡ f.log.rows
    before_next = filter-all (is_before f.next) f.log.rows (all-weaker (IsRowOf f.next) (λ row. is_before f.next row ≡ true) f.log.rows (λ row is. let h = is.number in grind (arith, nat_tests)) (all_found (is_id file) IsFileKept files f found kept.files_kept).rows)

    pub newest_shown : (o : Option LogRow) → o ≡ last_passing (is_before f.next) f.log.rows → option_map info_of (newest_of versions file) ≡ option_map stamps_in o
    newest_shown o is =
        newest_told ∙ ap last list_shown
        ∙ last-map (λ _. true) stamps_in (λ _. true) f.log.rows (λ row. refl)
        ∙ ap (option_map stamps_in) (ap last (sym before_next) ∙ last-kept (is_before f.next) f.log.rows ∙ sym is)

    pub closing_shown : (number : ℕ) (o : Option LogRow) → o ≡ find (is_after number) f.log.rows → next_closing versions file number ≡ option_map (λ (row : LogRow). row.closed) o
    closing_shown number o is = rw (is, find_shown (is_newer_of file number) (is_after number) (λ row e. grind (arith, nat_tests)) (λ row. rw own refl)) (grind arith)

-- the info is that of the row that was found
pub told_found : (found before : Option LogRow) (info : VersionInfo) → told_or_forgotten found before ≡ Ok info → option_map stamps_in found ≡ Some info
told_found found before info is = grind (arith, is)

pub forgotten_none : (found before : Option LogRow) (refusal : Refusal) → told_or_forgotten found before ≡ Err refusal → option_map stamps_in found ≡ None
forgotten_none found before refusal is = grind (arith, is)

-- a test passes somewhere if something is found
pub any_found : {X : Type 0} (p : X → Bool) (xs : List X) → is_some (find p xs) ≡ list_any p xs
any_found p [] = refl
any_found p (x ∷ xs) = grind (arith, any_found p xs)

-- ---- the draft of a file

module _ (s : Store) (files : List File) (ss : AllSessions) (file : ℕ) where
  pub drafted : (o : Option (Bor Layout)) → option_copied o ≡ option_map (λ (d : Draft). d.layout) (sessions.draft_of ss file) → is_some o ≡ list_any (is_draft file) (map (draft_in s) ss.drafts)
  drafted o is = grind (arith, nat_tests, is_some-copied o, any_found (sessions.is_draft file) ss.drafts, any_draft s file ss.drafts)
