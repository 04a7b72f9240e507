-- The versions that the stored entries of a history removed.
use Rattle.std.specs.Prelude.{◌≡◌, ℕ, true, false, List, [], ◌∷◌, ◌++◌, Option, Some, None, find, ◌&&◌, ◌==◌, Bool, Result, Ok}
use Rattle.ele_due.specs.declared.key.Key.{Key}
use Rattle.ele_history.specs.Past.{Past, world_of}
use Rattle.ele_model.specs.declared.entry.Entry.{Entry}
use Rattle.ele_model.specs.declared.fate.Fate.{Fate}
use Rattle.ele_model.specs.declared.refusal.Refusal.{Refusal}
use Rattle.ele_model.specs.declared.reply.Reply.{Reply}
use Rattle.ele_model.specs.declared.reply.Reply.TheVariants as reply
use Rattle.ele_model.specs.declared.rows.Target.TheVariants.{File}
use Rattle.ele_model.specs.Fate.{HasFate}
use Rattle.ele_model.specs.Step.{step}
use Rattle.ele_model.specs.Walk.{file_now}
use Rattle.ele_model.specs.World.{World, is_held}
use Rattle.ele_path.specs.declared.tagged.Tag.{Tag}
use Rattle.ele_path.specs.declared.tagged.Tag.TheVariants as tag
use Rattle.ele_path.specs.declared.tagged.TaggedPath.{TaggedPath}
use Rattle.std.specs.List.{AllZip, list_any}
use Rattle.ele_name_paths.specs.LivePath.{live_path, names_in}
use Rattle.ele_audit.specs.Story.{hold_in}
use Rattle.ele_audit.specs.declared.row.Removed.{Removed}

-- ---- which entries removed a version

-- the removal of the version with the key, in the world before it; no other event than a clean has such a reply
abbrev pub removal_in : World → Reply → List (World × Key)
removal_in w (reply.Removed key) = (w, key) ∷ []
removal_in w reply = []

-- the removals among the entries from this world on, in order: the world before each, and the key of its version
abbrev pub removals : World → List Entry → List (World × Key)
removals w [] = []
removals w (entry ∷ entries) = removal_in w entry.reply ++ removals ((step w entry.event).1) entries

-- ---- what is known of each

-- what became of the version in the world; none if it isn't held there
abbrev pub MayHaveFate : World → Key → Option Fate → Type 0
MayHaveFate w key None = is_held w key.file key.number ≡ false
MayHaveFate w key (Some fate) = HasFate w key.file key.number fate

-- the row of a removal: its moment and key
pub record IsRemoval (removal : World × Key) (row : Removed) : Type 0 where
  pub at : row.at ≡ removal.0.now
  pub key : row.key ≡ removal.1

-- and the path that led to the file in the world before it, what had become of the version, and the mark that held it after its policy had
-- let it go
pub record IsExplained (removal : World × Key) (row : Removed) : Type 0 where
  pub is : IsRemoval removal row
  pub path : names_in row.path ≡ live_path removal.0.names (File removal.1.file)
  pub fate : MayHaveFate removal.0 removal.1 row.fate
  pub hold : row.hold ≡ hold_in removal.0 removal.1.file removal.1.number row.fate

-- the rows are those of the removals among the stored entries, in order
abbrev pub AreRemoved : Past → List Removed → Type 0
AreRemoved past rows = AllZip IsExplained (removals past.base past.entries) rows

-- ---- of one version

-- the removal is that of the file's version with that number
abbrev pub is_removal_of : ℕ → ℕ → World × Key → Bool
is_removal_of file number removal = (removal.1.file == file) && (removal.1.number == number)

-- the removal of the version of that number of the file that a path names; only a number in the tag means one
abbrev pub removal_at : Result ℕ Refusal → Tag → List (World × Key) → Option (World × Key)
removal_at (Ok file) (tag.Number number) all = find (is_removal_of file number) all
removal_at found tag all = None

-- the row is that of the removal; without a removal there is none
abbrev pub IsRowIf : Option (World × Key) → Option Removed → Type 0
IsRowIf None None = Unit {0}
IsRowIf (Some removal) (Some row) = IsExplained removal row
IsRowIf removal row = ⊥

-- the row of the removed version that the path and its tag mean now
abbrev pub IsRemovedVersion : Past → TaggedPath → Option Removed → Type 0
IsRemovedVersion past tagged row =
    IsRowIf (removal_at (file_now (world_of past).names tagged.path) tagged.tag (removals past.base past.entries)) row

-- ---- what takes memory

-- the reply removed a version
abbrev pub is_removal : Reply → Bool
is_removal (reply.Removed key) = true
is_removal reply = false

-- a stored entry removed a version
abbrev pub HasRemovals : Past → Type 0
HasRemovals past = list_any (λ entry. is_removal entry.reply) past.entries ≡ true

-- the reply removed a version with that number
abbrev pub removes_number : ℕ → Reply → Bool
removes_number number (reply.Removed key) = key.number == number
removes_number number reply = false

-- a stored entry removed a version with the number of the tag, of this file or of another
abbrev pub MayBeRemoved : Past → Tag → Type 0
MayBeRemoved past (tag.Number number) = list_any (λ entry. removes_number number entry.reply) past.entries ≡ true
MayBeRemoved past tag = ⊥
