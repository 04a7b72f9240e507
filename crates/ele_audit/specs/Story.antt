-- The story of a file: what is known of each of its versions, and the names that it has or had.
use Rattle.std.specs.Prelude.{◌≡◌, ℕ, ◌==◌, Bool, false, List, [], ◌∷◌, ◌++◌, Option, Some, None, find, filter, Result, Ok, Err}
use Rattle.std.specs.List.{AllZip}
use Rattle.std.specs.List.Sorted.{IsNonDecreasingBy, IsPermutation}
use Rattle.std.specs.Option.{option_and_then, option_map, option_or}
use Rattle.std.specs.Result.{result_ok}
use Rattle.ele_due.specs.declared.key.Key.{Key}
use Rattle.ele_holds.specs.Hold.{hold_of}
use Rattle.ele_holds.specs.declared.hold.Hold.{Hold}
use Rattle.ele_lists.specs.Last.{last_passing}
use Rattle.ele_model.specs.declared.fate.Fate.{Fate}
use Rattle.ele_model.specs.declared.fate.Fate.TheVariants.{Due}
use Rattle.ele_model.specs.declared.refusal.Refusal.{Refusal}
use Rattle.ele_model.specs.declared.rows.NameRow.{NameRow}
use Rattle.ele_model.specs.declared.rows.Target.{Target}
use Rattle.ele_model.specs.declared.rows.Target.TheVariants.{File, Directory}
use Rattle.ele_model.specs.declared.rows.VersionRow.{VersionRow}
use Rattle.ele_model.specs.Fate.{HasFate}
use Rattle.ele_model.specs.FileView.{is_version_of}
use Rattle.ele_model.specs.NameRows.{is_named}
use Rattle.ele_model.specs.Told.{info_of}
use Rattle.ele_model.specs.Walk.{file_at, file_now, walk_by}
use Rattle.ele_model.specs.World.{World, is_held, is_version, root}
use Rattle.ele_name_paths.specs.LivePath.{is_name_to, last_path, names_in}
use Rattle.ele_audit.specs.declared.story_row.NameStory.{NameStory}
use Rattle.ele_audit.specs.declared.story_row.Story.{Story}
use Rattle.ele_audit.specs.declared.story_row.VersionStory.{VersionStory}

-- ---- which file

-- what the name in the directory means, or meant last: the target of its newest row
abbrev pub last_meant : List NameRow → ℕ → List ℕ → Option Target
last_meant rows directory name = option_map (λ row. row.target) (last_passing (is_named directory name) rows)

-- the file that the path named last: each name of it means what it meant last
abbrev pub file_last : List NameRow → List (List ℕ) → Result ℕ Refusal
file_last rows path = file_at (walk_by (last_meant rows) (Directory root) path)

-- the first file, or if there is none the second
abbrev pub file_or : Result ℕ Refusal → Result ℕ Refusal → Result ℕ Refusal
file_or (Ok file) other = Ok file
file_or (Err refusal) other = other

-- the file that the path names in the world, or if it names none there, the one that it named last
abbrev pub file_told : List NameRow → List (List ℕ) → Result ℕ Refusal
file_told rows path = file_or (file_now rows path) (file_last rows path)

-- the world and that file, if there is one
abbrev pub seen_in : List (List ℕ) → World → Option (World × ℕ)
seen_in path w = option_map (λ file. (w, file)) (result_ok (file_told w.names path))

-- the same of the last removal before which there is one: a file that is dropped loses its names, and its last version was removed before
abbrev pub seen_last : List (List ℕ) → List (World × Key) → Option (World × ℕ)
seen_last path [] = None
seen_last path (removal ∷ removals) = option_or (seen_last path removals) (seen_in path removal.0)

-- the file of the path, and the world that knows its names: the world now, or the last one of these removals
abbrev pub seen_from : List (World × Key) → World → List (List ℕ) → Option (World × ℕ)
seen_from removals w path = option_or (seen_in path w) (seen_last path removals)

-- ---- versions

-- what becomes of a file's version in the world; none if it isn't held there
abbrev pub FateIn : World → ℕ → ℕ → Option Fate → Type 0
FateIn w file number None = is_held w file number ≡ false
FateIn w file number (Some fate) = HasFate w file number fate

-- of a version that is due: the mark that held it after its policy had let it go, if there is one
abbrev pub hold_in : World → ℕ → ℕ → Option Fate → Option Hold
hold_in w file number (Some (Due since cause)) = option_and_then (λ row. hold_of w row since) (find (is_version file number) w.versions)
hold_in w file number fate = None

-- what the world knows of the file's version n; and the moment of its removal, if it was removed
pub record IsVersionStory (w : World) (file n : ℕ) (moment : Option ℕ) (row : VersionStory) : Type 0 where
  pub number : row.number ≡ n
  pub info : row.info ≡ option_map info_of (find (is_version file n) w.versions)
  pub fate : FateIn w file n row.fate
  pub hold : row.hold ≡ hold_in w file n row.fate
  pub removed : row.removed ≡ moment

-- of a removed version it is what was known just before the removal
abbrev pub WasRemoved : ℕ → World × Key → VersionStory → Type 0
WasRemoved file removal row = IsVersionStory removal.0 file removal.1.number (Some removal.0.now) row

-- of a held version what is known now
abbrev pub IsHeldNow : World → VersionRow → VersionStory → Type 0
IsHeldNow w version row = IsVersionStory w version.file version.number None row

-- the removal is that of a version of the file
abbrev pub is_removal_from : ℕ → World × Key → Bool
is_removal_from file removal = removal.1.file == file

-- ---- names

-- the path of a name: that of its directory now, or the last one of it, and then the name; and from when until when it lived
pub record IsNameStory (rows : List NameRow) (row : NameRow) (name : NameStory) : Type 0 where
  pub path : names_in name.path ≡ option_map (λ names. names ++ row.name ∷ []) (last_path rows (Directory row.directory))
  pub birth : name.birth ≡ row.birth
  pub death : name.death ≡ row.death

-- these are the names of the file, in order of making
abbrev pub AreNames : List NameRow → ℕ → List NameStory → Type 0
AreNames rows file names = AllZip (IsNameStory rows) (filter (is_name_to (File file)) rows) names

-- ---- the whole

-- the file's held versions beside those that were removed, by number
pub record AreVersions (w : World) (file : ℕ) (removed versions : List VersionStory) : Type 0 where
  pub held : List VersionStory
  pub are : AllZip (IsHeldNow w) (filter (is_version_of file) w.versions) held
  pub same : IsPermutation (removed ++ held) versions
  pub order : IsNonDecreasingBy (λ row. row.number) versions

-- the story of a file in the world, after these removals of versions, of this file and of others; and its names in another world
pub record IsStoryOf (removals : List (World × Key)) (w seen : World) (story : Story) : Type 0 where
  pub removed : List VersionStory
  pub were : AllZip (WasRemoved story.file) (filter (is_removal_from story.file) removals) removed
  pub versions : AreVersions w story.file removed story.versions.items
  pub names : AreNames seen.names story.file story.names.items

-- the path names a file, or named one, and this is the story of the last one
pub record Tells (removals : List (World × Key)) (w : World) (path : List (List ℕ)) (story : Story) : Type 0 where
  pub seen : World
  pub file : seen_from removals w path ≡ Some (seen, story.file)
  pub is : IsStoryOf removals w seen story

-- the story of the file, or if the path never named one, why it names none now
abbrev pub IsStory : List (World × Key) → World → List (List ℕ) → Result Story Refusal → Type 0
IsStory removals w path (Ok story) = Tells removals w path story
IsStory removals w path (Err refusal) = (seen_from removals w path ≡ None) × (file_told w.names path ≡ Err refusal)
