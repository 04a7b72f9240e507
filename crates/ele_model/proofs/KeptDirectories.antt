-- The making of a directory, a name more, and the end or the moving of a name keep a world well formed.
use Rattle.ele_model.proofs.Basics.{rules, ◌≡◌, ℕ, Bool, true, false, List, [], ◌∷◌, ◌++◌, length-append, Option, Some, None, refl, arith, AllByRecursion, list_any, nat_tests, list_any-append, update_first, all-any, all-push, all-weaker, all-both}
use Rattle.ele_model.proofs.Basics.{all-none, all-update_first, later-push, length-update_first, list_any-update_found, list_any-update_fails, ◌-◌, cond, ◌==◌, length, false≢true, list_any-update_first, find, later-weaker, all-found, and-false}
use Rattle.ele_model.proofs.Basics.{found_passes, any-found}
use Rattle.ele_model.proofs.Words.{Policy, after_change, MakeDirectory, EndName, without_name, born_row, dies, is_live_in, is_live_name, live_target, has_directory, is_reached, IsHoused, Part, Directories, Names, Homes, Current, Holds, HasParts}
use Rattle.ele_model.proofs.Words.{Tree, Ended, HaveEnded, IsOfLive, World, NameRow, Target, Directory, ended_at, with_end, AddName, EndFileName, File, is_live_directory, Versions, Readers, IsVersion, next_of, is_live, is_version, MoveName}
use Rattle.ele_model.proofs.Words.{is_target_directory, IsNameRow, IsDirectoryThere, AreOthers, IsThere, is_live_name_of}
use Rattle.ele_model.proofs.Homes.{named_housed, HasName, named_more, named_end, directory_given, ended_more, any_less, homes_more}
use Rattle.ele_model.proofs.May.{MayMakeDirectory, MayEnd, MayAdd, MayMove}
use Rattle.ele_model.proofs.NameParts.{names_more, names_end, tree_more, tree_end, live_still, counted_more, free_still, IsUnnamed, still_none}
use Rattle.ele_model.proofs.Readers.{read_on}
use Rattle.ele_model.proofs.KeptVersions.{ended_own, ended_versions, current_ended}
use Rattle.ele_model.proofs.Versions.{IsEndedBy}
use Rattle.ele_model.proofs.Walks.{live_row}
use Rattle.ele_model.proofs.Elements.{none_left}

-- ---- a directory is made

pub make_directory_keeps : (w : World) (directory : ℕ) (name : List ℕ) (id : ℕ) (policy : Policy) → MayMakeDirectory w directory name id policy → HasParts w → HasParts (after_change w (MakeDirectory directory name id policy))
make_directory_keeps w directory name id policy may k = record { holds = by } where
  there : has_directory (w.directories ++ record { id = id; default = policy } ∷ []) id ≡ true
  there = grind (arith, nat_tests, list_any-append)

  by : (part : Part) → Holds (after_change w (MakeDirectory directory name id policy)) part
  by Homes = grind (arith, nat_tests, k.holds Homes, named_housed w.directories (w.directories ++ record { id = id; default = policy } ∷ []) w.names (born_row directory name (Directory id) w.now), list_any-append, may.named, there, all-push (HasName (w.names ++ born_row directory name (Directory id) w.now ∷ [])) w.directories, named_more, list_any-append)
  by Tree = grind (arith, nat_tests, k.holds Homes, k.holds Tree, k.holds Directories, tree_more, all-weaker, there, directory_given)
  by part = grind (arith, nat_tests, k.holds part, names_more w.files w.now w.names directory name (Directory id) may.named.free tt, length-append, all-push, later-push, all-weaker, list_any-append, ended_more)

-- ---- a name dies

-- each part, with that in place of the ends of versions
abbrev pub HoldsWith : Type 0 → World → Part → Type 0
HoldsWith Q w Ended = Q
HoldsWith Q w part = Holds w part

-- with the ends each part holds
pub with_ends : (w : World) → ((part : Part) → HoldsWith (HaveEnded w) w part) → HasParts w
with_ends w holds = search (rules)

module _ (w : World) (directory : ℕ) (name : List ℕ) (empty : (id : ℕ) → live_target w.names directory name ≡ Some (Directory id) → list_any (is_live_in id) w.names ≡ false) where
  abbrev p : NameRow → Bool
  p = is_live_name directory name

  abbrev after : List NameRow
  after = update_first p (dies w.now) w.names

  -- the name that dies isn't that of a directory that has a live name
  abbrev IsSpared : Option Target → ℕ → Type 0
  IsSpared o id = o ≡ Some (Directory id) → ⊥

  all_spared : (o : Option Target) → live_target w.names directory name ≡ o → AllByRecursion (λ row. row.death ≡ None → IsSpared o row.directory) w.names
  all_spared (Some (Directory id)) e = all-weaker (λ row. is_live_in id row ≡ false) (λ row. row.death ≡ None → IsSpared (Some (Directory id)) row.directory) w.names (λ row out none same. grind (arith, nat_tests)) (all-none (is_live_in id) w.names (empty id e))
  all_spared o e = all-any (λ row. row.death ≡ None → IsSpared o row.directory) w.names (λ row none same. cc)

  -- so it is reached as before
  reached_still : (id : ℕ) → IsSpared (live_target w.names directory name) id → is_reached w.names id ≡ true → is_reached after id ≡ true
  reached_still id spared h = grind (arith, nat_tests, list_any-update_found)

  -- all but that the name's file may have a version without an end
  pub end_name_holds : (Q : Type 0) → Q → HasParts w → (part : Part) → HoldsWith Q (without_name w directory name) part
  end_name_holds Q ends k Homes = grind (arith, nat_tests, k.holds Homes, all-update_first p (IsHoused w.directories after) (IsHoused w.directories after) (dies w.now) w.names, all-weaker (λ row. (row.death ≡ None → IsSpared (live_target w.names directory name) row.directory) × IsHoused w.directories w.names row) (IsHoused w.directories after) w.names, reached_still, all-both (λ row. row.death ≡ None → IsSpared (live_target w.names directory name) row.directory) (IsHoused w.directories w.names) w.names, all_spared (live_target w.names directory name) refl, named_end w.now p w.directories w.names)
  end_name_holds Q ends k Ended = ends
  end_name_holds Q ends k part = grind (arith, nat_tests, k.holds part, length-update_first p (dies w.now) w.names, names_end w.now w.names directory name w.files, tree_end w.now w.names directory name, list_any-update_fails)

pub end_name_keeps : (w : World) (directory : ℕ) (name : List ℕ) → MayEnd w directory name → HasParts w → HasParts (after_change w (EndName directory name))
end_name_keeps w directory name may k = with_ends (without_name w directory name) (end_name_holds w directory name empty (HaveEnded (without_name w directory name)) ends k) where
  empty : (id : ℕ) → live_target w.names directory name ≡ Some (Directory id) → list_any (is_live_in id) w.names ≡ false
  empty id stands = grind (arith, nat_tests, may.stands, may.empty)

  ends : HaveEnded (without_name w directory name)
  ends = grind (arith, nat_tests, k.holds Ended, all-weaker (IsOfLive w.names), live_still w.now w.names directory name (Directory may.id) may.stands)

-- ---- a name more

pub add_name_keeps : (w : World) (directory : ℕ) (name : List ℕ) (target : Target) → MayAdd w directory name target → HasParts w → HasParts (after_change w (AddName directory name target))
add_name_keeps w directory name target may k = record { holds = λ part. grind (arith, nat_tests, k.holds part, names_more w.files w.now w.names directory name target may.named.free may.there, homes_more w.directories w.names (born_row directory name target w.now) may.named.home may.named.reached may.housed, counted_more w (length (w.names ++ born_row directory name target w.now ∷ [])) k may.named.room, length-append, tree_more, (λ (id : ℕ). all-none (is_live_directory id) w.names), any_less, ended_more, may.more, false≢true) }

-- ---- the end of a file's name

-- each version but the file's has an end or is of a live file
abbrev EndBeside : ℕ → World → Type 0
EndBeside file w = AllByRecursion (λ row. (row.file == file) ≡ false → IsOfLive w.names row) w.versions

-- the last version of a file without a live name ends
with_end_keeps : (w : World) (file : ℕ) → is_live w file ≡ false → ((part : Part) → HoldsWith (EndBeside file w) w part) → HasParts (record w { versions = with_end w file })
with_end_keeps w file dead holds = record { holds = by } where
  last : ℕ
  last = next_of w.files file - 1

  by : (part : Part) → Holds (record w { versions = with_end w file }) part
  by Readers = read_on w.versions (with_end w file) w.handles (λ f n held. grind (arith, nat_tests, list_any-update_first)) (holds Readers)
  by Current = λ other live. grind (arith, nat_tests, holds Current other, dead, current_ended file other last (next_of w.files other) w.now w.versions)
  by Ended = grind (arith, nat_tests, holds Ended, holds Versions, all-weaker (λ row. ((row.file ≡ file → IsEndedBy w.now row) × IsVersion w.files w.now row) × ((row.file == file) ≡ false → IsOfLive w.names row)) (IsOfLive w.names) (with_end w file), all-both (λ row. (row.file ≡ file → IsEndedBy w.now row) × IsVersion w.files w.now row) (λ row. (row.file == file) ≡ false → IsOfLive w.names row) (with_end w file), ended_own w file, all-update_first (is_version file last) (λ row. (row.file == file) ≡ false → IsOfLive w.names row) (λ row. (row.file == file) ≡ false → IsOfLive w.names row) (ended_at w.now) w.versions)
  by part = grind (arith, nat_tests, holds part, length-update_first (is_version file last) (ended_at w.now) w.versions, ended_versions w file)

module _ (w : World) (directory : ℕ) (name : List ℕ) (file : ℕ) (leads : live_target w.names directory name ≡ Some (File file)) (k : HasParts w) where
  abbrev ended : World
  ended = without_name w directory name

  no_directory : (id : ℕ) → live_target w.names directory name ≡ Some (Directory id) → list_any (is_live_in id) w.names ≡ false
  no_directory id stands = absurd cc

  -- each other file is live as before
  beside : EndBeside file ended
  beside = grind (arith, nat_tests, k.holds Ended, all-weaker (IsOfLive w.names), live_still w.now w.names directory name (File file) leads)

  pub end_file_name_keeps : HasParts (after_change w (EndFileName directory name file))
  end_file_name_keeps = by (is_live ended file) refl where
    by : (b : Bool) → is_live ended file ≡ b → HasParts (record ended { versions = cond b w.versions (with_end ended file) })
    by true e = with_ends ended (end_name_holds w directory name no_directory (HaveEnded ended) (all-weaker _ (IsOfLive ended.names) w.versions (λ row h. grind (arith, nat_tests)) beside) k)
    by false e = with_end_keeps ended file e (end_name_holds w directory name no_directory (EndBeside file ended) beside k)

-- ---- a name moves

module _ (w : World) (from : ℕ) (old : List ℕ) (to : ℕ) (new : List ℕ) (target : Target) (may : MayMove w from old to new target) (k : HasParts w) where
  abbrev dying : NameRow → Bool
  dying = is_live_name from old

  abbrev remaining : List NameRow
  remaining = update_first dying (dies w.now) w.names

  abbrev renamed : NameRow
  renamed = born_row to new target w.now

  there : IsThere w.files target
  there = live_row (IsThere w.files) w.names from old target (λ row found. (all-found dying (IsNameRow w.files w.now) w.names row found (k.holds Names).each).there) may.stands

  housed : IsDirectoryThere w.directories target
  housed = live_row (IsDirectoryThere w.directories) w.names from old target (λ row found. (all-found dying (IsHoused w.directories w.names) w.names row found (k.holds Homes).each).there) may.stands

  -- it had the only name of a directory
  unnamed : (t : Target) (row : NameRow) → find dying w.names ≡ Some row → row.target ≡ t → IsUnnamed remaining t
  unnamed (File file) row found is = tt
  unnamed (Directory id) row found is = none_left dying (is_live_directory id) (dies w.now) w.names row found (grind (arith, nat_tests, still_none from old row, found_passes dying w.names row found)) (λ x. and-false (is_target_directory id x.target)) (later-weaker AreOthers _ w.names (λ x y h. h id) (k.holds Tree))

  -- each directory that was reached is
  reached : (id : ℕ) → is_reached w.names id ≡ true → is_reached (remaining ++ renamed ∷ []) id ≡ true
  reached id h = grind (arith, nat_tests, list_any-append, list_any-update_found)

  pub move_name_keeps : HasParts (after_change w (MoveName from old to new target))
  move_name_keeps = record { holds = by } where
    by : (part : Part) → Holds (after_change w (MoveName from old to new target)) part
    by Names = names_more w.files w.now remaining to new target (free_still w.now w.names from old to new may.named.free) there (names_end w.now w.names from old w.files (k.holds Names))
    by Homes = grind (arith, nat_tests, k.holds Homes, all-push (IsHoused w.directories (remaining ++ renamed ∷ [])) remaining renamed, all-update_first dying (IsHoused w.directories w.names) (IsHoused w.directories (remaining ++ renamed ∷ [])) (dies w.now) w.names, may.named, housed, reached, named_more w.directories remaining renamed, named_end w.now dying w.directories w.names)
    by Tree = tree_more w.now remaining to new target (live_row (IsUnnamed remaining) w.names from old target (λ row found. unnamed row.target row found refl) may.stands) (tree_end w.now w.names from old (k.holds Tree))
    by part = grind (arith, nat_tests, k.holds part, counted_more w (length (remaining ++ renamed ∷ [])) k may.named.room, length-append, length-update_first dying (dies w.now) w.names, any_less, may.stands, (λ (file : ℕ). any-found dying (is_live_name_of file) w.names), still_none, found_passes, list_any-append, list_any-update_fails, false≢true, all-weaker (IsOfLive w.names) (IsOfLive (remaining ++ renamed ∷ [])) w.versions, live_still w.now w.names from old target)
