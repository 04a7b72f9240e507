-- The moments of versions that were current at marks: which change with the groups, and that the queue follows.
use Rattle.ele_state.proofs.Words.{get_or, length, take, ◌+◌, ◌<◌, ◌≤◌, ◌||◌, HasParts, false≢true, option_and_then, ripe_past, AllByRecursion, AllLater, AreChanges, ArePlaced, Bool, Cover, Dropped, GroupChange, HasLeaving, IsQueued, IsSound, IsInfoOf, Joined, Left, List, MakeGroup, Marked, MarksMove, None, Option, Rows, Some, VersionInfo, Unmarked, VersionRow, World, [], after_change, all-found, all_found, ap, append-nil, arith, change_of, cond, cover_after, cover_of, covers_moment, drop_moves, false, files_of, filter, filter-append, find, found_passes, had_life, if_changed, in_order_of, is_covered, is_moment, is_one, is_open, is_touched, is_version, leave_moves, list_any, lives_at, mark_moves, member_moves, moments_by, moments_of, nat_tests, option_map, option_map_or, placed_of, refl, ripe_at, ripe_at_near, info_of, sym, true, unmark_moves, world_of, ℕ, ◌&&◌, ◌==◌, ◌∙◌, ◌∷◌, ◌≡◌}
use Rattle.ele_state.proofs.Questions.{covered_told, unmarked}
use Rattle.ele_state.proofs.Changes.{Move, found_is, passing, none_changes, one_changes, one_stays, same_change}
use Rattle.ele_model.proofs.Versions.{IsFound}
use Rattle.std.proofs.lemmas.List.{take_all}
use Rattle.std.proofs.lemmas.List.Folds.{list_any_more}
use Rattle.ele_model.specs.GroupRows.{is_member, new_group}

-- ---- the version that was current at a moment, by its number

module _ (file number moment : ℕ) where
  abbrev is_its : Option VersionRow → Bool
  is_its o = option_map_or (λ row. row.number == number) o false

  -- of rows after one of the file that lived at the moment no other of the file did, and none has its number
  none_covered : (x : VersionRow) (ys : List VersionRow) → x.file ≡ file → lives_at moment x ≡ true → AllByRecursion (ArePlaced x) ys → is_covered (moment ∷ []) ys file number ≡ false
  none_covered x ys own lived all = grind (arith, nat_tests, all-found, found_passes)

  none_numbered : (x : VersionRow) (ys : List VersionRow) → x.file ≡ file → x.number ≡ number → AllByRecursion (ArePlaced x) ys → is_its (find (had_life file moment) ys) ≡ false
  none_numbered x ys own its all = grind (arith, nat_tests, all-found, found_passes)

  -- it is the only one of the file that the mark covers
  lived : (xs : List VersionRow) → AllLater ArePlaced xs → is_covered (moment ∷ []) xs file number ≡ is_its (find (had_life file moment) xs)
  lived [] placed = refl
  lived (x ∷ xs) placed = grind (arith, nat_tests, lived xs placed.1, none_covered x xs, none_numbered x xs, placed.0)

module _ (rows : Rows) (file mark : ℕ) (sound : IsSound rows) where
  abbrev w : World
  w = world_of rows

  abbrev touched : ℕ → ℕ → Bool
  touched = is_touched (file ∷ []) (mark ∷ []) rows.files.versions

  pub lived_none : None ≡ option_map info_of (find (had_life file mark) rows.files.versions) → (owner number : ℕ) → touched owner number ≡ false
  lived_none none owner number = grind (arith, nat_tests, lived owner number mark rows.files.versions (placed_of w sound.formed))

  pub lived_one : (info : VersionInfo) → Some info ≡ option_map info_of (find (had_life file mark) rows.files.versions) → (owner number : ℕ) → touched owner number ≡ is_one file info.number owner number
  lived_one info told owner number = grind (arith, nat_tests, lived owner number mark rows.files.versions (placed_of w sound.formed))

  pub lived_told : (info : VersionInfo) → Some info ≡ option_map info_of (find (had_life file mark) rows.files.versions) → IsInfoOf rows.files file info
  lived_told info told = grind (arith, nat_tests, told, passing (had_life file mark) rows.files.versions, found_is (had_life file mark) (IsFound rows.files.versions) rows.files.versions (all_found rows.files.versions (placed_of w sound.formed)))

  module _ (change : GroupChange) where
    abbrev after : ℕ → ℕ → Option ℕ
    after = moments_by w (cover_after change rows.groups)

    -- if no version was current
    pub none_lived : None ≡ option_map info_of (find (had_life file mark) rows.files.versions) → AreChanges touched (ripe_at w) after []
    none_lived none = none_changes (ripe_at w) after touched (λ owner number h. absurd (false≢true (sym (lived_none none owner number) ∙ h)))

    module _ (info : VersionInfo) (lives : Some info ≡ option_map info_of (find (had_life file mark) rows.files.versions)) where
      -- the moment of the one that was by its info
      abbrev told_by : (ℕ → ℕ → Option ℕ → Cover) → Option ℕ
      told_by cover = cond (is_open rows.files.handles file info.number) None (option_and_then (λ ended. option_and_then (ripe_past (cover file info.closed (Some ended))) (unmarked w file info ended)) info.ended)

      told_moment : (cover : ℕ → ℕ → Option ℕ → Cover) → moments_by w cover file info.number ≡ told_by cover
      told_moment cover = ap (cond (is_open rows.files.handles file info.number) None) (covered_told w file info (lived_told info lives) (cover file))

      had : ripe_at w file info.number ≡ told_by (cover_of rows.groups)
      had = ripe_at_near w (in_order_of w sound.formed) file info.number ∙ told_moment (cover_of rows.groups)

      -- if it keeps it, and if it gets another
      pub stays : told_by (cover_after change rows.groups) ≡ told_by (cover_of rows.groups) → AreChanges touched (ripe_at w) after []
      stays same = same_change (ripe_at w) after touched (is_one file info.number) [] (lived_one info lives) (one_stays (ripe_at w) after file info.number (told_moment (cover_after change rows.groups) ∙ same ∙ sym had))

      pub changes : (was is : Option ℕ) → told_by (cover_of rows.groups) ≡ was → told_by (cover_after change rows.groups) ≡ is → AreChanges touched (ripe_at w) after (if_changed (Some (record { file = file; number = info.number; was = was; is = is })))
      changes was is before then = same_change (ripe_at w) after touched (is_one file info.number) _ (lived_one info lives) (one_changes (ripe_at w) after file info.number was is (had ∙ before) (told_moment (cover_after change rows.groups) ∙ then))

-- ---- one mark after the other, and one file

module _ (versions : List VersionRow) (files marks : List ℕ) (i file j : ℕ) where
  -- the versions of the first files, so many, and of the next one those that the first marks cover
  abbrev pub so_far : ℕ → ℕ → Bool
  so_far owner number = is_touched (take i files) marks versions owner number || ((file == owner) && is_covered (take j marks) versions owner number)

  pub mark_more : (mark : ℕ) → j < length marks → mark ≡ get_or marks j mark → (owner number : ℕ)
      → (is_touched (take i files) marks versions owner number || ((file == owner) && is_covered (take (j + 1) marks) versions owner number)) ≡ (so_far owner number || is_touched (file ∷ []) (mark ∷ []) versions owner number)
  mark_more mark within is owner number = by (find (is_version owner number) versions) where
    by : (o : Option VersionRow)
        → ((list_any (λ member. member == owner) (take i files) && option_map_or (λ row. list_any (covers_moment row.closed row.ended) marks) o false) || ((file == owner) && option_map_or (λ row. list_any (covers_moment row.closed row.ended) (take (j + 1) marks)) o false))
        ≡ (((list_any (λ member. member == owner) (take i files) && option_map_or (λ row. list_any (covers_moment row.closed row.ended) marks) o false) || ((file == owner) && option_map_or (λ row. list_any (covers_moment row.closed row.ended) (take j marks)) o false)) || (((file == owner) || false) && option_map_or (λ row. (covers_moment row.closed row.ended mark || false)) o false))
    by None = grind (arith, nat_tests)
    by (Some row) = rw (list_any_more (covers_moment row.closed row.ended) marks j mark within, ← is) (grind (arith, nat_tests))

  pub file_more : i < length files → file ≡ get_or files i file → length marks ≤ j → (owner number : ℕ) → is_touched (take (i + 1) files) marks versions owner number ≡ so_far owner number
  file_more within is past owner number = rw (list_any_more (λ member. member == owner) files i file within, ← is, take_all j marks past) (grind (arith, nat_tests))

-- ---- the changes of groups

-- a new group has no file, and so marks none
pub group_made : (rows : Rows) (name : List ℕ) → IsSound rows → IsQueued (after_change (world_of rows) (MakeGroup name)) rows.queue
group_made rows name sound k = sound.tracked.queue k ∙ ap (is_moment k.ripe) (rw (filter-append (is_member k.file) rows.groups (new_group name ∷ []), append-nil (filter (is_member k.file) rows.groups)) refl)

marks_move : (w : World) (change : GroupChange) → HasParts w → HasLeaving change w.groups → MarksMove w (after_change w (change_of change)) (cover_after change w.groups) (files_of change w.groups) (moments_of change w.groups)
marks_move w (Marked name mark) formed leaving = mark_moves w name mark formed
marks_move w (Unmarked name moment) formed leaving = unmark_moves w name moment formed leaving
marks_move w (Joined name file) formed leaving = member_moves w name file formed
marks_move w (Left name file) formed leaving = leave_moves w name file formed leaving
marks_move w (Dropped name) formed leaving = drop_moves w name formed

-- which moments they change
pub regroups : (w : World) (change : GroupChange) → HasParts w → HasLeaving change w.groups
    → Move w (after_change w (change_of change)) (is_touched (files_of change w.groups) (moments_of change w.groups) w.versions) (ripe_at w) (moments_by w (cover_after change w.groups))
regroups w change formed leaving = let moves = marks_move w change formed leaving in record { had = λ file number touched. refl; has = moves.own; others = moves.others }
