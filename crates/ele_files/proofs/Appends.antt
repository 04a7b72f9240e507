-- A file's next version is appended: the first one of a new file, or a held one that is restored.
use Rattle.ele_files.proofs.Words.{AllByRecursion, AllLater, AllSessions, Append, Bool, Draft, File, FileRow, GotFile, HasAppended, Held, IsDraftKept, IsFileKept, IsLocal, IsRowOf, IsRowPast, IsStocked, Keeps, Layout, List, LogRow, None, Some, StockLaws, Store, VersionRow, World, [], after_change, all-both, all_found, all-map, all-push, all-weaker, ap, append_nil, arith, bucket_changes, content_of, empty_layout, ended_at, ended_rows, false, file_row, find, find-at, flat_map, flat_map-append, held_in, insert_before, is_file, is_id, is_live, is_version, is_version_after, later-push, length, local-after, local-insert_before, local-update_first, map, map-all, map-append, named_live, nat_tests, next_of, next_of-numbered_other, next_of-push, next_row, not_found, numbered_on, refl, row_in, row_stock, rows_in, rows_of, shown, stock_of, subst, sym, true, update_first, update_first-at, with_file, with_name, with_rows, ℕ, ◌++◌, ◌+◌, ◌-◌, ◌<◌, ◌∙◌, ◌∷◌, ◌≡◌, ◌≢◌, Became, Cell, HeldRows, IsPast, IsSome, IsWritten, LivesIn, Moves, Stays, Tagged, cells_by, cells_of_version, get_or, has_number, list_any, position, set}
use Rattle.ele_files.proofs.Endings.{closed_kept, of_rows, its_kept, its_past}
use Rattle.ele_files.proofs.Exchanges.{after, rise_over, files_over, rows_over, IsReached, reached}
use Rattle.ele_files.proofs.Rows.{its_id, next_found, file_of, tagged, own_version, ended_shown, undrafted, no_file, version_none, version_of}
use Rattle.ele_files.proofs.Drafts.{all_earlier}
use Rattle.ele_files.proofs.Stock.{over, row_added, file_added, row_copied, row_same, held_stays, row_lives}
use Rattle.ele_model.specs.declared.rows.Target.TheVariants as target
use Rattle.ele_model.specs.World as world

-- what is added after all
insert_end : {X : Type 0} (p : X → Bool) (y : X) (xs : List X) → AllByRecursion (λ x. p x ≡ false) xs → insert_before p y xs ≡ xs ++ y ∷ []
insert_end p y [] none = refl
insert_end p y (x ∷ xs) none = rw none.0 (ap (λ zs. x ∷ zs) (insert_end p y xs none.1))

-- the flat rows with a version more of the file, whose next number it has
abbrev appended : ℕ → ℕ → ℕ → VersionRow → List VersionRow → List VersionRow
appended id next now row rows = insert_before (is_version_after id next) row (update_first (is_version id (next - 1)) (ended_at now) rows)

module _ (s : Store) (files : List File) (id : ℕ) (f g : File) (found : find (is_id id) files ≡ Some f) (rise : AllLater (λ (x y : File). x.id < y.id) files) (files_kept : AllByRecursion IsFileKept files) (opened now : ℕ) (live : Bool) (cells : Layout) (closed : HasAppended f g now (next_row f.next opened now live cells)) (past : AllByRecursion (IsRowPast now) f.log.rows) where
  abbrev new : LogRow
  new = next_row f.next opened now live cells

  kept_file : IsFileKept f
  kept_file = all_found (is_id id) IsFileKept files f found files_kept

  is : f.id ≡ id
  is = its_id files id f found

  rows_number_on : map file_row (after files id f g found) ≡ update_first (is_file id) numbered_on (map file_row files)
  rows_number_on = rows_over files id f g found numbered_on (rw closed.next refl)

  -- drafts of other files
  pub others_keep : (drafts : List Draft) → AllByRecursion (λ d. d.file ≢ id) drafts → AllByRecursion (IsDraftKept files) drafts → AllByRecursion (IsDraftKept (after files id f g found)) drafts
  others_keep drafts others kept = all-weaker (λ d. (d.file ≢ id) × IsDraftKept files d) (IsDraftKept (after files id f g found)) drafts (λ d h. record { there = h.1.there; number = rw (rows_number_on, next_of-numbered_other (map file_row files) id d.file h.0) h.1.number }) (all-both (λ d. d.file ≢ id) (IsDraftKept files) drafts others kept)

  pub appended_keeps : StockLaws → (a : AllSessions) → AllByRecursion (IsDraftKept files) a.drafts → AllByRecursion (λ d. d.file ≢ id) a.drafts → IsStocked s (row_stock f.id new ∷ stock_of files a.drafts) → Keeps s (after files id f g found) a
  appended_keeps laws a kept others stocked =
      let with_row = laws.same s (row_stock f.id new ∷ stock_of files a.drafts) (stock_of (after files id f g found) a.drafts) (record { sums = λ k. sym ((row_added files a.drafts id f g found now new closed.rows).sums k) }) stocked in
      assumption (with_row, rise_over files id f g found rise, files_over files id f g found (closed_kept f now kept_file past opened live cells g closed) files_kept, others_keep a.drafts others kept)

  none_later : AllByRecursion (λ row. is_version_after id f.next row ≡ false) (map (row_in s f.id) (ended_rows f now))
  none_later = grind (arith, nat_tests, all-map, all-weaker, of_rows, kept_file, is)

  local : IsLocal file_of id (appended id f.next now (row_in s f.id new))
  local =
      let inserted = local-insert_before file_of id (is_version_after id f.next) (row_in s f.id new) (λ row lt. grind (arith, nat_tests)) (λ row lt. grind (arith, nat_tests)) in
      local-after file_of id (insert_before (is_version_after id f.next) (row_in s f.id new)) (update_first (is_version id (f.next - 1)) (ended_at now)) inserted (local-update_first file_of id (is_version id (f.next - 1)) (own_version id (f.next - 1)) (ended_at now))

  its_rows : rows_in s (over g f) ≡ appended id f.next now (row_in s f.id new) (rows_in s f)
  its_rows =
      let last = insert_end (is_version_after id f.next) (row_in s f.id new) (map (row_in s f.id) (ended_rows f now)) none_later in
      rw (closed.rows, map-append, ← last, ended_shown s f now id is) refl

  versions_append : appended id f.next now (row_in s f.id new) (flat_map (rows_in s) files) ≡ flat_map (rows_in s) (after files id f g found)
  versions_append = bucket_changes (λ (x : File). x.id) (rows_in s) file_of (tagged s) id (appended id f.next now (row_in s f.id new)) local (over g) files f rise found its_rows

  shows_next : (a : AllSessions) → held_in s (after files id f g found) a ≡ record (held_in s files a) { files = update_first (is_file id) numbered_on (map file_row files); versions = appended id f.next now (row_in s f.id new) (flat_map (rows_in s) files) }
  shows_next a = rw (versions_append, rows_number_on) refl

  -- what a world with the rows has once the version is appended there
  pub appended_shows : (a : AllSessions) (w : World) → rows_of w ≡ held_in s files a → w.now ≡ now → is_live w id ≡ live → held_in s (after files id f g found) a ≡ rows_of (after_change w (Append id opened (shown s cells)))
  appended_shows a w rows time lives =
      grind (arith, nat_tests, rows, shows_next a, next_found files id (Some f) found, is)

-- ---- a file is added without a version, and gets its first

pub fresh_kept : (f : File) → f.next ≡ 1 → f.log.rows ≡ [] → IsFileKept f
fresh_kept f next none = record { next = omega (arith, next); rows = rw none tt; order = rw none (record { ends = tt; order = tt }) }

module _ (s : Store) (files : List File) (a : AllSessions) (kept : Keeps s files a) (f : File) (next : f.next ≡ 1) (none : f.log.rows ≡ []) (below : AllByRecursion (λ (row : FileRow). row.id < f.id) (map file_row files)) (now : ℕ) (x : File) (appended : HasAppended f x now (next_row 1 now now true empty_layout)) where
  before : AllByRecursion (λ (g : File). g.id < f.id) files
  before = map-all file_row (λ row. row.id < f.id) files below

  others : AllByRecursion (λ g. is_id f.id g ≡ false) files
  others = all-weaker (λ (g : File). g.id < f.id) (λ g. is_id f.id g ≡ false) files (λ g lt. grind (arith, nat_tests)) before

  pub found : find (is_id f.id) (files ++ f ∷ []) ≡ Some f
  found = find-at (is_id f.id) files f [] others (grind (arith, nat_tests))

  more_rows : map file_row (files ++ f ∷ []) ≡ map file_row files ++ file_row f ∷ []
  more_rows = map-append file_row files (f ∷ [])

  begun : Keeps s (files ++ f ∷ []) a
  begun =
      let stocked = kept.laws.same s (stock_of files a.drafts) (stock_of (files ++ f ∷ []) a.drafts) (file_added files a.drafts f none) kept.stocked in
      let drafts_kept = all-weaker (IsDraftKept files) (IsDraftKept (files ++ f ∷ [])) a.drafts (λ d k. record { there = k.there; number = k.number ∙ sym (ap (λ rs. next_of rs d.file) more_rows ∙ next_of-push (map file_row files) (file_row f) d.file (omega (arith, k.there, k.number))) }) kept.drafts_kept in
      assumption (stocked, drafts_kept, later-push (λ (g h : File). g.id < h.id) files f kept.rise before, all-push IsFileKept files f kept.files_kept (fresh_kept f next none))

  -- no draft is of the file
  pub draftless : AllByRecursion (λ d. d.file ≢ f.id) a.drafts
  draftless = grind (arith, nat_tests, all-weaker, next_found, not_found, others)

  pub placed : after (files ++ f ∷ []) f.id f x found ≡ files ++ x ∷ []
  placed = update_first-at (is_id f.id) (over x) files f [] others (grind (arith, nat_tests)) ∙ ap (λ g. files ++ g ∷ []) (sym (rw (appended.id, appended.policy) refl))

  pub same_next : HasAppended f x now (next_row f.next now now true empty_layout)
  same_next = subst (λ (n : ℕ). HasAppended f x now (next_row n now now true empty_layout)) (sym next) appended

  pub added_keeps : Keeps s (files ++ x ∷ []) a
  added_keeps = rw (← placed) (appended_keeps s (files ++ f ∷ []) f.id f x found begun.rise begun.files_kept now now true empty_layout same_next (rw none tt) kept.laws a begun.drafts_kept draftless (kept.laws.empty s f.id (f.next + 1) (stock_of (files ++ f ∷ []) a.drafts) begun.stocked))

  pub added_shows : GotFile (held_in s files a) f.id f.policy now (held_in s (files ++ x ∷ []) a)
  added_shows w directory name time =
      let then : HasAppended f x w.now (next_row f.next w.now w.now true empty_layout) = subst (λ (n : ℕ). HasAppended f x n (next_row f.next n n true empty_layout)) (sym time) same_next in
      let begin : World = with_file (with_rows w (held_in s files a)) f.id f.policy in
      rw (← placed) (appended_shows s (files ++ f ∷ []) f.id f x found begun.rise begun.files_kept w.now w.now true empty_layout then (rw none tt) a (with_name begin directory name (target.File f.id)) rows refl (named_live begin directory name f.id)) where
        rows : rows_of (with_name (with_file (with_rows w (held_in s files a)) f.id f.policy) directory name (target.File f.id)) ≡ held_in s (files ++ f ∷ []) a
        rows = rw (more_rows, flat_map-append (rows_in s) files (f ∷ []), none, append_nil (flat_map (rows_in s) files), next) refl

-- what the files and the store are once the file's next version has these cells
pub record IsGrown (t : Store) (was : Held) (file : ℕ) (cells : List Cell) (now : ℕ) (live : Bool) (next size : ℕ) (files : List File) (a : AllSessions) : Type 0 where
  pub keeps : Keeps t files a
  pub number : next ≡ next_of was.files file
  pub long : size ≡ length (content_of cells)
  pub shows : Became was now file live (Append file now cells ∷ []) (held_in t files a)

module _ (s : Store) (files : List File) (a : AllSessions) (kept : Keeps s files a) (file i : ℕ) (f : File) (place : Some i ≡ position (is_id file) files) (is : f ≡ get_or files i f) (these : HeldRows) (rows_stay : these.rows ≡ f.log.rows) (alone : list_any (world.is_draft file) (held_in s files a).drafts ≡ false) where
  abbrev reached_at : IsReached files file i f
  reached_at = reached files file i f place is

  -- the store has the map of the version, and the file at its place has the version
  module _ (t : Store) (now : ℕ) (live : Bool) (m : Layout) (came : Stays s t (stock_of files a.drafts) (row_stock f.id (next_row f.next now now live m) ∷ stock_of files a.drafts)) (cells : List Cell) (seen : shown t m ≡ cells) (l : File) (appended : HasAppended (record f { log = these }) l now (next_row f.next now now live m)) (past : AllByRecursion (IsPast now) (held_in s files a).versions) where
    f_appended : HasAppended f l now (next_row f.next now now live m)
    f_appended = record { id = appended.id; policy = appended.policy; next = appended.next; rows = appended.rows ∙ rw rows_stay refl }

    pub grown : IsGrown t (held_in s files a) file cells now live f.next m.size (set files i l) a
    grown = record {
      keeps = rw (reached_at.changed l appended.id appended.policy) (appended_keeps t files file f l reached_at.found kept.rise kept.files_kept now now live m f_appended (its_past s files a kept file i f place is now past) kept.laws a kept.drafts_kept (undrafted s file a.drafts alone) came.stocked);
      number = sym (next_found files file (Some f) reached_at.found);
      long = rw (← seen) (sym (kept.laws.long t m (kept.laws.lives t (row_stock f.id (next_row f.next now now live m)) (stock_of files a.drafts) came.stocked)));
      shows = λ w time lives. rw (reached_at.changed l appended.id appended.policy, ← seen) (appended_shows t files file f l reached_at.found kept.rise kept.files_kept now now live m f_appended (its_past s files a kept file i f place is now past) a (with_rows w (held_in s files a)) (sym (held_stays s t files a came.shows)) time lives);
    }

-- ---- the version of that number is restored

module _ (s : Store) (files : List File) (a : AllSessions) (kept : Keeps s files a) (file number : ℕ) (some : IsSome (find (is_version file number) (held_in s files a).versions)) where
  -- the version's file is there
  pub not_missing : None ≡ position (is_id file) files → ⊥
  not_missing none = grind (arith, some, version_none s file number files kept.rise (no_file files file none))

  module _ (i : ℕ) (f : File) (place : Some i ≡ position (is_id file) files) (is : f ≡ get_or files i f) (these : HeldRows) (rows_stay : these.rows ≡ f.log.rows) where
    abbrev at : IsReached files file i f
    at = reached files file i f place is

    -- and its row
    pub not_lost : None ≡ find (has_number number) these.rows → ⊥
    not_lost none = grind (arith, some, none, rows_stay, version_of s file number files kept.rise f at.found)

    module _ (row : LogRow) (held : Some row ≡ find (has_number number) these.rows) where
      its_row : find (has_number number) f.log.rows ≡ Some row
      its_row = rw (← rows_stay) (sym held)

      pub lives : LivesIn s row.cells
      lives = row_lives s files a kept file (has_number number) f row at.found its_row

      module _ (t : Store) (moves : Moves s t [] (row.cells ∷ [])) (alone : list_any (world.is_draft file) (held_in s files a).drafts ≡ false) (now : ℕ) (live : Bool) (m : Layout) (same : m ≡ row.cells) (l : File) (appended : HasAppended (record f { log = these }) l now (next_row f.next now now live m)) (past : AllByRecursion (IsPast now) (held_in s files a).versions) where
        again : Stays s t (stock_of files a.drafts) (row_stock f.id (next_row f.next now now live row.cells) ∷ stock_of files a.drafts)
        again =
            let below = (all_found (has_number number) (IsRowOf f.next) f.log.rows row its_row (its_kept s files a kept file i f place is).rows).number in
            row_copied s t files a kept file f at.found (has_number number) row its_row moves (f.next + 1) (omega (arith, below)) (row_stock f.id (next_row f.next now now live row.cells) ∷ stock_of files a.drafts) (record { sums = λ x. refl })

        cells : cells_of_version (held_in s files a) file number ≡ shown t row.cells
        cells = rw (version_of s file number files kept.rise f at.found, its_row) (sym (row_same s t files a kept file f at.found (has_number number) row its_row again.shows))

        pub restored : IsGrown t (held_in s files a) file (cells_of_version (held_in s files a) file number) now live f.next m.size (set files i l) a
        restored = grown s files a kept file i f place is these rows_stay alone t now live m (rw same again) (cells_of_version (held_in s files a) file number) (rw same (sym cells)) l appended past

-- ---- the version has given bytes

module _ (s : Store) (files : List File) (a : AllSessions) (kept : Keeps s files a) (file i : ℕ) (f : File) (place : Some i ≡ position (is_id file) files) (is : f ≡ get_or files i f) (these : HeldRows) (rows_stay : these.rows ≡ f.log.rows) (alone : list_any (world.is_draft file) (held_in s files a).drafts ≡ false) where
  abbrev its : IsReached files file i f
  its = reached files file i f place is

  module _ (t : Store) (now : ℕ) (live : Bool) (bytes : List ℕ) (m : Layout) (written : IsWritten s t f.next 0 bytes empty_layout m) where
    -- its map was that of no bytes, which no store counts
    laid : Stays s t (stock_of files a.drafts) (row_stock f.id (next_row f.next now now live m) ∷ stock_of files a.drafts)
    laid =
        let stock = stock_of files a.drafts in
        let tag : Tagged = record { file = f.id; below = f.next + 1; layout = empty_layout } in
        let next = sym (next_found files file (Some f) its.found) in
        let earlier = all_earlier files a.drafts file f.next next kept.rise kept.files_kept (undrafted s file a.drafts alone) in
        kept.laws.rewritten s t (tag ∷ stock) tag stock f.next _ m (row_stock f.id (next_row f.next now now live m) ∷ stock) (kept.laws.empty s f.id (f.next + 1) stock kept.stocked) (record { sums = λ k. refl }) refl (rw (its_id files file f its.found) earlier) written.moves written.renews (record { sums = λ k. refl })

    pub saved : (l : File) → HasAppended (record f { log = these }) l now (next_row f.next now now live m) → AllByRecursion (IsPast now) (held_in s files a).versions → IsGrown t (held_in s files a) file (cells_by (next_of (map file_row files) file) bytes) now live f.next m.size (set files i l) a
    saved l appended past = rw (next_found files file (Some f) its.found) (grown s files a kept file i f place is these rows_stay alone t now live m laid (cells_by f.next bytes) written.cells l appended past)
