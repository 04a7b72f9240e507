-- The queue and the book that are made of rows.
use Rattle.ele_state.proofs.Words.{nat_tests, ◌≡◌, ℕ, ◌==◌, ◌+◌, ◌<◌, false, cond, ◌&&◌, ◌||◌, List, [], ◌∷◌, ◌++◌, length, take, get_or, find, filter, map, nothing, Option, None, refl, ap, sym, subst, ◌∙◌, arith, AllLater, list_any, HasParts, Bounded, Files, World, IsQueued, IsRekeyed, IsBooked, Held, Key, FileRow, VersionRow, DraftRow, VersionInfo, info_of, is_entry, is_one, is_version, is_version_of, is_file, in_order_of, is_moment, Kind, is_kind, kind_of, Book, sums_of, only_at, plus, Fits, file_usage, is_file_of, only_at_is, ripe_at, has_key, within_files, within_versions, within_bytes, within_blocks, whole_files, whole_versions, whole_bytes}
use Rattle.ele_lists.proofs.Alls.{all-place}
use Rattle.ele_model.proofs.Basics.{filter-append, length-append}
use Rattle.ele_model.proofs.Neighbours.{unmet_moment}
use Rattle.ele_model.proofs.RipeAt.{ripe_at_is}
use Rattle.ele_model.proofs.Splits.{file_moves}
use Rattle.ele_model.proofs.Usages.{whole_blocks}
use Rattle.ele_model.specs.Usage.{usage_of}
use Rattle.ele_state.proofs.Booked.{same_kind}
use Rattle.ele_state.proofs.Changes.{any_is}
use Rattle.ele_state.proofs.Governed.{held_told, is_among, one_more}
use Rattle.ele_state.specs.Tracked.{rows_world}
use Rattle.std.proofs.Common.{suc, zero}
use Rattle.std.proofs.lemmas.List.{length-take, take_more}
use Rattle.std.proofs.lemmas.List.Folds.{list_any_more}

-- ---- the keys

-- the queue also has the keys of the file's versions with these infos
abbrev pub HasKeysOf : World → ℕ → List VersionInfo → List Key → List Key → Type 0
HasKeysOf w file held before queue = (k : Key) → has_key k queue ≡ (has_key k before || (is_among file held k.file k.number && is_moment k.ripe (ripe_at w k.file k.number)))

-- the queue has the keys of these files' versions
abbrev pub HasKeysIn : World → List FileRow → List Key → Type 0
HasKeysIn w files queue = (k : Key) → has_key k queue ≡ (list_any (λ (row : FileRow). row.id == k.file) files && is_moment k.ripe (ripe_at w k.file k.number))

-- a version's entry is the key of its moment
entry : (w : World) (file number : ℕ) (moment : Option ℕ) (k : Key) → moment ≡ ripe_at w file number → is_entry file number moment k ≡ (is_one file number k.file k.number && is_moment k.ripe (ripe_at w k.file k.number))
entry w file number moment k is = grind (arith, nat_tests, is)

-- with one version more
pub one_more_key : (w : World) (file : ℕ) (held : List VersionInfo) (i : ℕ) (info : VersionInfo) (moment : Option ℕ) (before queue after : List Key)
    → i < length held → info ≡ get_or held i info → moment ≡ ripe_at w file info.number → IsRekeyed file info.number None moment queue after
    → HasKeysOf w file (take i held) before queue → HasKeysOf w file (take (i + 1) held) before after
one_more_key w file held i info moment before queue after within at is came has k =
    grind (arith, came k, has k, entry w file info.number moment k is, one_more file held i info within at k.file k.number)

-- a version that isn't held has no moment
absent : (w : World) (file number : ℕ) → find (is_version file number) w.versions ≡ None → ripe_at w file number ≡ None
absent w file number none = ripe_at_is w file number ∙ rw none refl

-- so all versions of the file have their keys
pub all_keys : (w : World) (file : ℕ) (held : List VersionInfo) (before queue : List Key) → held ≡ map info_of (filter (is_version_of file) w.versions)
    → HasKeysOf w file held before queue → (k : Key) → has_key k queue ≡ (has_key k before || ((k.file == file) && is_moment k.ripe (ripe_at w k.file k.number)))
all_keys w file held before queue is has k =
    grind (arith, nat_tests, has k, is, held_told file k.number w.versions, any_is (is_version file k.number) w.versions, absent w file k.number)

-- nor has a version of a file that isn't there
unfiled : (w : World) (file number : ℕ) → HasParts w → find (is_file file) w.files ≡ None → ripe_at w file number ≡ None
unfiled w file number formed none = unmet_moment w file number (in_order_of w formed) (rw none refl)

pub is_queued : (w : World) (queue : List Key) → HasParts w → HasKeysIn w w.files queue → IsQueued w queue
is_queued w queue formed has k = grind (arith, nat_tests, has k, any_is (is_file k.file) w.files, unfiled w k.file k.number formed)

-- with one file more
pub one_more_keys : (w : World) (files : List FileRow) (i : ℕ) (row : FileRow) (queue after : List Key) → i < length files → row ≡ get_or files i row
    → ((k : Key) → has_key k after ≡ (has_key k queue || ((k.file == row.id) && is_moment k.ripe (ripe_at w k.file k.number))))
    → HasKeysIn w (take i files) queue → HasKeysIn w (take (i + 1) files) after
one_more_keys w files i row queue after within at came has k =
    rw (list_any_more (λ (r : FileRow). r.id == k.file) files i row within, ← at) (grind (arith, nat_tests, came k, has k))

-- ---- the book

module _ (versions : List VersionRow) (drafts : List DraftRow) where
  kind_pushed : (files : List FileRow) (row : FileRow) (kind : Kind) (id : ℕ) → find (is_file row.id) files ≡ None → is_file_of (files ++ row ∷ []) kind id ≡ cond (id == row.id) (is_kind kind (kind_of row.policy)) (is_file_of files kind id)
  kind_pushed [] row kind id none = grind (arith, nat_tests)
  kind_pushed (x ∷ xs) row kind id none = grind (arith, nat_tests, none, kind_pushed xs row kind id)

  -- one file more brings what it uses to the kind of its policy
  usage_pushed : (files : List FileRow) (row : FileRow) (kind : Kind) → find (is_file row.id) files ≡ None
      → usage_of (rows_world (files ++ row ∷ []) versions drafts) kind ≡ plus (usage_of (rows_world files versions drafts) kind) (only_at (kind_of row.policy) (file_usage versions drafts row.id) kind)
  unfolding usage_of
  usage_pushed files row kind none =
      let kinds = λ (other : ℕ). kind_pushed files row kind other none in
      let moves = file_moves row.id (is_file_of files kind) (is_file_of (files ++ row ∷ []) kind) (λ other apart. grind (arith, nat_tests, kinds other, apart)) versions versions drafts drafts refl refl in
      grind (arith, nat_tests, moves, kinds row.id, none, filter-append, length-append, only_at_is)

-- the sums of some of the files fit
some_fit : (w : World) (files : List FileRow) (i : ℕ) → HasParts w → files ≡ w.files → (k : Kind) → Fits (usage_of (rows_world (take i files) w.versions w.drafts) k)
some_fit w files i formed same k =
    let some = rows_world (take i files) w.versions w.drafts in
    let bounds = formed.holds Bounded in
    record {
      files = omega (arith, within_files some k, length-take i files, ap length same, whole_files w formed bounds);
      versions = omega (arith, within_versions some k, whole_versions w formed bounds);
      bytes = omega (arith, within_bytes some k, whole_bytes w formed bounds);
      blocks = omega (arith, within_blocks some k, whole_blocks w formed bounds);
    }

-- no file before a place has the number of the one at it
no_earlier : (files : List FileRow) (i : ℕ) (row : FileRow) → i < length files → row ≡ get_or files i row → AllLater (λ x y. x.id < y.id) files → find (is_file row.id) (take i files) ≡ None
no_earlier [] i row within at placed = absurd (omega arith)
no_earlier (x ∷ xs) zero row within at placed = refl
no_earlier (x ∷ xs) (suc i) row within at placed =
    let later : x.id < row.id = rw at (all-place (λ (y : FileRow). x.id < y.id) xs i row placed.0 (omega (arith, within))) in
    grind (arith, nat_tests, later, no_earlier xs i row (omega (arith, within)) at placed.1)

-- the book has what these files use
abbrev pub HasUsageOf : World → List FileRow → Book → Type 0
HasUsageOf w files book = (k : Kind) → sums_of book k ≡ usage_of (rows_world files w.versions w.drafts) k

none_pass : {X : Type 0} (xs : List X) → filter (λ (x : X). false) xs ≡ []
none_pass [] = refl
none_pass (x ∷ xs) = none_pass xs

unused : (w : World) (k : Kind) → usage_of (rows_world [] w.versions w.drafts) k ≡ nothing
unfolding usage_of
unused w k = rw (none_pass w.versions, none_pass w.drafts) refl

-- no files use nothing
pub no_usage_yet : (w : World) (book : Book) → ((k : Kind) → sums_of book k ≡ nothing) → HasUsageOf w [] book
no_usage_yet w book sums k = sums k ∙ sym (unused w k)

module _ (w : World) (formed : HasParts w) (files : List FileRow) (same : files ≡ w.files) (i : ℕ) (row : FileRow) (within : i < length files) (at : row ≡ get_or files i row) where
  placed : AllLater (λ (x y : FileRow). x.id < y.id) files
  placed = rw same (formed.holds Files).placed

  with_one_more : (k : Kind) → usage_of (rows_world (take (i + 1) files) w.versions w.drafts) k ≡ plus (usage_of (rows_world (take i files) w.versions w.drafts) k) (only_at (kind_of row.policy) (file_usage w.versions w.drafts row.id) k)
  with_one_more k = rw (take_more files i row within, ← at) (usage_pushed w.versions w.drafts (take i files) row k (no_earlier files i row within at placed))

  -- with one file more
  pub one_more_usage : (book after : Book) → ((k : Kind) → sums_of after k ≡ plus (sums_of book k) (only_at (kind_of row.policy) (file_usage w.versions w.drafts row.id) k)) → HasUsageOf w (take i files) book → HasUsageOf w (take (i + 1) files) after
  one_more_usage book after added has k = added k ∙ rw (has k) (sym (with_one_more k))

  -- the sums can take it, since those of some of the world's files fit
  pub one_more_fits : (book : Book) → HasUsageOf w (take i files) book → Fits (plus (sums_of book (kind_of row.policy)) (file_usage w.versions w.drafts row.id))
  one_more_fits book has =
      let kind = kind_of row.policy in
      let usage = file_usage w.versions w.drafts row.id in
      let own : only_at kind usage kind ≡ usage = grind (arith, nat_tests, only_at_is, same_kind kind) in
      let sums : usage_of (rows_world (take (i + 1) files) w.versions w.drafts) kind ≡ plus (sums_of book kind) usage = with_one_more kind ∙ rw (own, has kind) refl in
      subst Fits sums (some_fit w files (i + 1) formed same kind)

-- all of them are the world's
pub is_booked : (h : Held) (w : World) (files : List FileRow) (book : Book) → files ≡ h.files → w.versions ≡ h.versions → w.drafts ≡ h.drafts → HasUsageOf w files book → IsBooked h book
is_booked h w files book same versions drafts has k = rw (← same, ← versions, ← drafts) (has k)
