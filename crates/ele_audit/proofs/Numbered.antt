-- Histories without removals, of any file or of one, or without open handles; and the removal of one version.
use Rattle.ele_audit.proofs.Basics.{List, [], ap, refl, ℕ, ◌++◌, ◌∷◌, ◌≡◌, ◌∙◌, Option, Some, None, Bool, true, false, find, option_and_then, if◌then◌else◌}
use Rattle.std.proofs.lemmas.List.Elements.{filter-append}
use Rattle.std.specs.Prelude.{◌||◌, ◌&&◌, ◌==◌, Result, Ok, Err, filter}
use Rattle.std.specs.List.{AllZip, list_any}
use Rattle.std.specs.Result.{result_ok}
use Rattle.ele_audit.specs.Open.{AreOpen}
use Rattle.ele_audit.specs.Removals.{AreRemoved, IsExplained, IsRemovedVersion, IsRowIf, is_removal, is_removal_of, removal_at, removal_in, removals, removes_number}
use Rattle.ele_audit.specs.Rows.{is_row_of, removes_from}
use Rattle.ele_audit.specs.Story.{WasRemoved, is_removal_from}
use Rattle.ele_audit.specs.declared.row.OpenHandle.{OpenHandle}
use Rattle.ele_audit.specs.declared.row.Removed.{Removed}
use Rattle.ele_audit.specs.declared.story_row.VersionStory.{VersionStory}
use Rattle.ele_due.specs.declared.key.Key.{Key}
use Rattle.ele_history.specs.Past.{Past, world_of}
use Rattle.ele_model.specs.declared.entry.Entry.{Entry}
use Rattle.ele_model.specs.declared.refusal.Refusal.{Refusal}
use Rattle.ele_model.specs.declared.reply.Reply.{Reply}
use Rattle.ele_model.specs.declared.reply.Reply.TheVariants as reply
use Rattle.ele_model.specs.Step.{step}
use Rattle.ele_model.specs.Walk.{file_now}
use Rattle.ele_model.specs.World.{World}
use Rattle.ele_path.specs.declared.tagged.Tag.TheVariants as tag
use Rattle.ele_path.specs.declared.tagged.TaggedPath.{TaggedPath}

-- neither test passes if their disjunction doesn't
left_fails : (a b : Bool) → (a || b) ≡ false → a ≡ false
left_fails false b none = refl
left_fails true b none = none

right_fails : (a b : Bool) → (a || b) ≡ false → b ≡ false
right_fails false b none = none
right_fails true b none = absurd cc

-- ---- no removals

nothing_here : (w : World) (answer : Reply) → is_removal answer ≡ false → removal_in w answer ≡ []
nothing_here w (reply.Removed key) none = absurd cc
nothing_here w answer none = refl

pub none_removed : (w : World) (entries : List Entry) → list_any (λ entry. is_removal entry.reply) entries ≡ false → removals w entries ≡ []
none_removed w [] none = refl
none_removed w (entry ∷ entries) none =
    rw (nothing_here w entry.reply (left_fails (is_removal entry.reply) _ none)) (none_removed ((step w entry.event).1) entries (right_fails (is_removal entry.reply) _ none))

pub no_rows : (past : Past) (rows : List Removed) → list_any (λ entry. is_removal entry.reply) past.entries ≡ false → rows ≡ [] → AreRemoved past rows
no_rows past rows none is = rw (is, none_removed past.base past.entries none) tt

pub no_handles : (past : Past) (handles : List OpenHandle) → (world_of past).handles ≡ [] → handles ≡ [] → AreOpen past handles
no_handles past handles none is = rw (is, none) tt

-- ---- no removals from a file

nothing_from : (w : World) (file : ℕ) (answer : Reply) → removes_from file answer ≡ false → filter (is_removal_from file) (removal_in w answer) ≡ []
nothing_from w file (reply.Removed key) none = rw none refl
nothing_from w file answer none = refl

none_from : (w : World) (file : ℕ) (entries : List Entry) → list_any (λ entry. removes_from file entry.reply) entries ≡ false → filter (is_removal_from file) (removals w entries) ≡ []
none_from w file [] none = refl
none_from w file (entry ∷ entries) none =
    filter-append (is_removal_from file) (removal_in w entry.reply) (removals ((step w entry.event).1) entries)
    ∙ rw (nothing_from w file entry.reply (left_fails (removes_from file entry.reply) _ none)) (none_from ((step w entry.event).1) file entries (right_fails (removes_from file entry.reply) _ none))

pub no_rows_from : (w : World) (file : ℕ) (entries : List Entry) (rows : List VersionStory) → list_any (λ entry. removes_from file entry.reply) entries ≡ false → rows ≡ []
    → AllZip (WasRemoved file) (filter (is_removal_from file) (removals w entries)) rows
no_rows_from w file entries rows none is = rw (is, none_from w file entries none) tt

-- ---- no removal of a number

passed_over : (w : World) (file number : ℕ) (answer : Reply) (rest : List (World × Key)) → removes_number number answer ≡ false
    → find (is_removal_of file number) (removal_in w answer ++ rest) ≡ find (is_removal_of file number) rest
passed_over w file number (reply.Removed key) rest none = by (key.file == file) where
  by : (is_file : Bool) → (if is_file && (key.number == number) then Some (w, key) else find (is_removal_of file number) rest) ≡ find (is_removal_of file number) rest
  by true = rw none refl
  by false = refl
passed_over w file number answer rest none = refl

none_numbered : (w : World) (file number : ℕ) (entries : List Entry) → list_any (λ entry. removes_number number entry.reply) entries ≡ false
    → find (is_removal_of file number) (removals w entries) ≡ None
none_numbered w file number [] none = refl
none_numbered w file number (entry ∷ entries) none =
    passed_over w file number entry.reply (removals ((step w entry.event).1) entries) (left_fails (removes_number number entry.reply) _ none)
    ∙ none_numbered ((step w entry.event).1) file number entries (right_fails (removes_number number entry.reply) _ none)

none_at : (found : Result ℕ Refusal) (w : World) (number : ℕ) (entries : List Entry) → list_any (λ entry. removes_number number entry.reply) entries ≡ false
    → removal_at found (tag.Number number) (removals w entries) ≡ None
none_at (Ok file) w number entries none = none_numbered w file number entries none
none_at (Err refusal) w number entries none = refl

pub no_version : (past : Past) (tagged : TaggedPath) (number : ℕ) → tagged.tag ≡ tag.Number number → list_any (λ entry. removes_number number entry.reply) past.entries ≡ false
    → IsRemovedVersion past tagged None
no_version past tagged number is none = rw (is, none_at (file_now (world_of past).names tagged.path) past.base number past.entries none) tt

-- ---- the row of a number

same_key : (file number : ℕ) (removal : World × Key) (row : Removed) → IsExplained removal row → is_row_of file number row ≡ is_removal_of file number removal
same_key file number removal row is = ap (λ (key : Key). (key.file == file) && (key.number == number)) is.is.key

row_found : (file number : ℕ) (all : List (World × Key)) (rows : List Removed) → AllZip IsExplained all rows
    → IsRowIf (find (is_removal_of file number) all) (find (is_row_of file number) rows)
row_found file number [] [] are = tt
row_found file number [] (row ∷ rows) are = absurd are
row_found file number (removal ∷ all) [] are = absurd are
row_found file number (removal ∷ all) (row ∷ rows) are =
    rw (same_key file number removal row are.0) (by (is_removal_of file number removal) (row_found file number all rows are.1)) where
      by : (is : Bool) → IsRowIf (find (is_removal_of file number) all) (find (is_row_of file number) rows)
          → IsRowIf (if is then Some removal else find (is_removal_of file number) all) (if is then Some row else find (is_row_of file number) rows)
      by true rest = are.0
      by false rest = rest

row_of_file : (number : ℕ) (found : Result ℕ Refusal) (all : List (World × Key)) (rows : List Removed) → AllZip IsExplained all rows
    → IsRowIf (removal_at found (tag.Number number) all) (option_and_then (λ file. find (is_row_of file number) rows) (result_ok found))
row_of_file number (Ok file) all rows are = row_found file number all rows are
row_of_file number (Err refusal) all rows are = tt

pub row_means : (past : Past) (tagged : TaggedPath) (rows : List Removed) (file : Option ℕ) (number : ℕ) (row : Option Removed) → AreRemoved past rows
    → file ≡ result_ok (file_now (world_of past).names tagged.path) → tagged.tag ≡ tag.Number number → row ≡ option_and_then (λ file. find (is_row_of file number) rows) file
    → IsRemovedVersion past tagged row
row_means past tagged rows file number row are file_is tag_is row_is =
    rw (row_is, file_is, tag_is) (row_of_file number (file_now (world_of past).names tagged.path) (removals past.base past.entries) rows are)
