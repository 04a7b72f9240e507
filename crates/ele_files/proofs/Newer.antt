-- The infos of versions after one, and how many they are, as the log of their file shows it.
use Rattle.ele_files.proofs.Words.{AllLater, AllSessions, File, IsFileKept, Keeps, List, LogRow, None, Option, Precedes, Some, Store, VersionRow, all_found, ap, arith, back-map, enough_newer, false, file_row, filter, find, find-filter, find-map, flat_map, is_after, is_id, is_newer_of, is_version_of, later-map, later-weaker, nat_lt, nat_tests, newer_held, newer_own, option_map, option_map_or, refl, reverse, row_in, rows_in, slice_get, stamps_in, info_of, sym, with_newer, with_newer_own, ℕ, ◌-◌, ◌<◌, ◌∙◌, ◌≡◌, ◌≢◌}
use Rattle.ele_files.proofs.Stock.{row_lives}
use Rattle.ele_files.proofs.Tagged.{list_shown, none_shown, own, own_rows}
use Rattle.std.specs.Prelude.{nat_le, ◌==◌, ◌||◌, Bool}
use Rattle.ele_files.proofs.Rows.{file_row_found}
use Rattle.ele_files.specs.Beside.{IsBeside}
use Rattle.ele_files.specs.Held.{Held}
use Rattle.ele_files.specs.declared.files.newer.Beside.{Beside}
use Rattle.ele_files.proofs.Words.{VersionInfo, map}
use Rattle.ele_model.specs.Neighbours.{next_closing}
use Rattle.ele_policy.specs.RipeCase.{case_of}
use Rattle.ele_policy.specs.RipeCase.{rule_in}

module _ (s : Store) (files : List File) (a : AllSessions) (kept : Keeps s files a) (file : ℕ) where
  abbrev versions : List VersionRow
  versions = flat_map (rows_in s) files

  -- a file that isn't there has none
  pub newer_none : (number : ℕ) → find (is_id file) files ≡ None → option_map info_of (find (is_newer_of file number) versions) ≡ None
  newer_none number none = ap (option_map info_of) (sym (find-filter (is_newer_of file number) (is_version_of file) versions (λ row e. grind (arith, nat_tests))) ∙ ap (find (is_newer_of file number)) (none_shown s files a kept file none))

  module _ (f : File) (found : find (is_id file) files ≡ Some f) where
    row_shown : (number : ℕ) → find (is_newer_of file number) versions ≡ option_map (row_in s f.id) (find (is_after number) f.log.rows)
    row_shown number = grind (arith, nat_tests, own s files a kept file f found, find-filter (is_newer_of file number) (is_version_of file) versions, own_rows s files a kept file f found, find-map (row_in s f.id) (is_newer_of file number) f.log.rows)

    pub newer_shown : (number : ℕ) (o : Option LogRow) → o ≡ find (is_after number) f.log.rows → option_map info_of (find (is_newer_of file number) versions) ≡ option_map stamps_in o
    newer_shown number o is = rw (is, row_shown number) (grind (arith, nat_tests, row_lives s files a kept))

  -- a file that isn't there has no newer versions either
  pub none_newer : (number count : ℕ) → count ≢ 0 → find (is_id file) files ≡ None → nat_le count (newer_held versions file number) ≡ false
  none_newer number count some none = rw (newer_own versions file number, none_shown s files a kept file none) (grind (arith, nat_tests))

  pub none_enough : (number count : ℕ) → find (is_id file) files ≡ None → (count == 0) ≡ nat_le count (newer_held versions file number)
  none_enough number count none = grind (arith, nat_tests, none_newer number count, none)

  pub none_back : (newer : ℕ) → find (is_id file) files ≡ None → option_map info_of (with_newer versions file newer) ≡ None
  none_back newer none =
      let bare = none_shown s files a kept file none in
      ap (option_map info_of) (with_newer_own versions file (rw bare tt) newer ∙ ap (λ rows. slice_get (reverse rows) newer) bare)

  module _ (f : File) (found : find (is_id file) files ≡ Some f) where
    rise : AllLater (λ (x y : VersionRow). x.number < y.number) (filter (is_version_of file) versions)
    rise =
        let order = (all_found (is_id file) IsFileKept files f found kept.files_kept).order in
        rw (own_rows s files a kept file f found) (later-map (row_in s f.id) (λ (x y : VersionRow). x.number < y.number) f.log.rows (later-weaker Precedes (λ (x y : LogRow). x.number < y.number) f.log.rows (λ x y p. p.number) order.order))

    back_own : (newer : ℕ) → with_newer versions file newer ≡ slice_get (reverse (filter (is_version_of file) versions)) newer
    back_own newer = with_newer_own versions file rise newer

    pub back_shown : (newer : ℕ) (o : Option LogRow) → o ≡ slice_get (reverse f.log.rows) newer → option_map info_of (with_newer versions file newer) ≡ option_map stamps_in o
    back_shown newer o is =
        ap (option_map info_of) (back_own newer)
        ∙ sym (back-map info_of (filter (is_version_of file) versions) newer)
        ∙ ap (λ told. slice_get (reverse told) newer) (list_shown s files a kept file f found)
        ∙ back-map stamps_in f.log.rows newer
        ∙ ap (option_map stamps_in) (sym is)

    -- whether so many are newer, if one fewer are newer than the row
    pub enough_shown : (number count : ℕ) → count ≢ 0 → (o : Option LogRow) → o ≡ slice_get (reverse f.log.rows) (count - 1) → nat_le count (newer_held versions file number) ≡ option_map_or (λ (row : LogRow). nat_lt number row.number) o false
    enough_shown number count some o is =
        ap (λ n. nat_le n (newer_held versions file number)) (grind (arith, some))
        ∙ enough_newer versions file rise (count - 1) number
        ∙ rw (is, back_own (count - 1), own_rows s files a kept file f found, back-map (row_in s f.id) f.log.rows (count - 1)) (elim (slice_get (reverse f.log.rows) (count - 1)) as (λ o. option_map_or (λ (row : VersionRow). nat_lt number row.number) (option_map (row_in s f.id) o) false ≡ option_map_or (λ (row : LogRow). nat_lt number row.number) o false) [
          | Some row ↦ refl
          | None ↦ refl
        ])

    pub enough_in_log : (number count : ℕ) → (nat_le count 0 || option_map_or (λ (row : LogRow). nat_lt number row.number) (slice_get (reverse f.log.rows) (count - 1)) false) ≡ nat_le count (newer_held versions file number)
    enough_in_log number count = grind (arith, nat_tests, enough_shown number count)

    -- what is beside a version, by one look at its file
    pub beside_shown : (h : Held) (info : VersionInfo) (live : Bool) (beside : Beside) → h.files ≡ map file_row files → h.versions ≡ versions → beside.next ≡ option_map stamps_in (find (is_after info.number) f.log.rows)
        → beside.case ≡ case_of (rule_in f.policy live).policy info.closed (option_map (λ (info : VersionInfo). info.closed) beside.next) (nat_le (rule_in f.policy live).newer (newer_held versions file info.number))
        → IsBeside h file info live beside
    beside_shown h info live beside filed held is case =
        let next : beside.next ≡ option_map info_of (find (is_newer_of file info.number) versions) = is ∙ sym (newer_shown f found info.number (find (is_after info.number) f.log.rows) refl) in
        let closing : option_map (λ (info : VersionInfo). info.closed) beside.next ≡ next_closing versions file info.number = rw next (by (find (is_newer_of file info.number) versions)) in
        record { rule = rule_in f.policy live; ruled = rw (filed, file_row_found files file, found) refl; case = rw (held, ← closing) case; next = rw held next } where
          by : (o : Option VersionRow) → option_map (λ (info : VersionInfo). info.closed) (option_map info_of o) ≡ option_map (λ (row : VersionRow). row.closed) o
          by None = refl
          by (Some row) = refl
