-- The changes of each event may be made, each in its turn.
use Rattle.ele_model.proofs.Basics.{nat_tests, arith, ◌≡◌, ℕ, ◌+◌, ◌-◌, ◌≤◌, length, true, false, not, List, Option, Some, None, Ok, is_some, AllByRecursion, false≢true, all-weaker, last_has, rules, ◌<◌, [], ◌∷◌, refl, find, nat_le, list_any, all-found, found_passes}
use Rattle.ele_model.proofs.Basics.{length-remove_first, list_any-insert_before, insert_before}
use Rattle.ele_model.proofs.Words.{is_named, last_target, may_return, nameless, IsThere, IsDirectoryThere, IsNameRow, IsHoused, Names, Homes, HasParts, World, NameRow, Target, Key, new_draft, EndDraft, ShutHandle, after_changes, first_due, plan}
use Rattle.ele_model.proofs.Words.{live_target, parent_now, IsPolicy, default_of, DirectoryRow, Counted, Directories, Versions, Drafts, next_of, is_draft, is_draft_after, Event, MakeDir, Create, Undelete, OpenWrite, OpenRead, Close, Abandon, Save, Revert, Restore, CleanOne, Read, DraftRow, VersionRow}
use Rattle.ele_path.specs.declared.tagged.Tag.TheVariants as tag
use Rattle.ele_lists.proofs.Cuts.{any-found}
use Rattle.ele_model.proofs.Words.{Policy, Files, MakeFile, after_change, cells_by, content_of, file_standing, is_held, is_live, longest_content, save_new_plan, save_plan, written_fills, written_short}
use Rattle.ele_model.proofs.Created.{made_is, new_file}
use Rattle.ele_model.proofs.Files.{next_of-new}
use Rattle.ele_model.proofs.May.{MayMakeVersion, MayName, MayAdd, MayRevive, MayAppend, MayClean, MayPlan}
use Rattle.ele_model.proofs.DueRows.{first_is_due, due_has_ended, due_is_unread}
use Rattle.ele_model.proofs.Homes.{parent_home}
use Rattle.ele_model.proofs.Meant.{IsMeant, is_meant, meant_held, is_at, own_is, then_is}
use Rattle.ele_model.proofs.Writers.{written_by, written_more}
use Rattle.ele_model.proofs.Walks.{file_there, last_leads, file_live, file_of, last_names, place_there, standing_free, standing_is}

-- ---- the last target of a deleted name may have its name again

-- what is true of each name's target is true of a deleted name's last target
lost_is : (P : Target → Type 0) (rows : List NameRow) (directory : ℕ) (name : List ℕ) (lost : Target) → AllByRecursion (λ row. P row.target) rows → last_target rows directory name ≡ Ok lost → P lost
lost_is P rows directory name lost all h = grind (arith, nat_tests, last_has (is_named directory name) (λ row. P row.target) rows)

-- to what has a live name, or is a directory, a name may be added
pub may_add : (w : World) (at : ℕ × List ℕ) (lost : Target) → HasParts w → MayName w at.0 at.1 → last_target w.names at.0 at.1 ≡ Ok lost → nameless w lost ≡ None → not (may_return w lost) ≡ false → MayAdd w at.0 at.1 lost
may_add w at lost k named last live returns = grind (arith, nat_tests, k.holds Names, k.holds Homes, lost_is (IsThere w.files) w.names at.0 at.1, all-weaker (IsNameRow w.files w.now), lost_is (IsDirectoryThere w.directories) w.names at.0 at.1, all-weaker (IsHoused w.directories w.names), false≢true)

-- a file without a live name may be revived
pub may_revive : (w : World) (at : ℕ × List ℕ) (lost : Target) (file : ℕ) → MayName w at.0 at.1 → nameless w lost ≡ Some file → not (may_return w lost) ≡ false → MayMakeVersion w → MayRevive w at.0 at.1 file (next_of w.files file - 1)
may_revive w at lost file named none returns room = grind (arith, nat_tests, any-found, false≢true)

-- and so may one that has another held version
pub may_revive_as : (w : World) (at : ℕ × List ℕ) (file number : ℕ) → MayName w at.0 at.1 → is_live w file ≡ false → is_held w file number ≡ true → MayMakeVersion w → MayRevive w at.0 at.1 file number
may_revive_as w at file number named nameless held room = grind (arith, nat_tests, any-found)

-- ---- what the checks found

-- the file's new draft is there
begun : (w : World) (file : ℕ) → list_any (is_draft file) (insert_before (is_draft_after file) (new_draft w file) w.drafts) ≡ true
begun w file = grind (arith, nat_tests, list_any-insert_before)

pub takes : (w : World) (key : Key) → HasParts w → first_due w ≡ Some key → MayClean CleanOne w w key.file key.number
takes w key k first = grind (arith, nat_tests, k.holds Versions, first_is_due w key (k.holds Versions).placed first, due_has_ended w, found_passes, due_is_unread)

-- the draft becomes a version, once the last handle and the draft are removed
finishes : (w : World) (handle file : ℕ) (draft : DraftRow) → HasParts w → find (is_draft file) w.drafts ≡ Some draft → MayAppend (after_changes w (ShutHandle handle ∷ EndDraft file ∷ [])) file draft.opened draft.cells
finishes w handle file draft k found = grind (arith, nat_tests, k.holds Drafts, k.holds Counted, all-found, found_passes, length-remove_first)

-- a file's version that is held may be its next one again
repeats : (w : World) (file : ℕ) (row : VersionRow) → HasParts w → IsMeant w.versions file row → MayMakeVersion w → MayAppend w file w.now row.cells
repeats w file row k meant room = grind (arith, nat_tests, k.holds Versions, meant, all-found, written_more row.number (next_of w.files file) row.cells)

-- its content isn't too long to be saved
short_is : (w : World) (file : ℕ) (row : VersionRow) → HasParts w → IsMeant w.versions file row → length (content_of row.cells) ≤ longest_content
short_is w file row k meant = grind (arith, nat_tests, k.holds Versions, meant, all-found)

-- a path's last name isn't live, and may be made
pub may_name : (w : World) (path : List (List ℕ)) (at : ℕ × List ℕ) → HasParts w → parent_now w.names path ≡ Ok at → is_some (live_target w.names at.0 at.1) ≡ false → nat_le w.limits.names w.made.names ≡ false → MayName w at.0 at.1
may_name w path at k found free names = grind (arith, nat_tests, parent_home w path)

-- a directory's default can be given, and so can the default of none
pub default_is : (rows : List DirectoryRow) (id : ℕ) → AllByRecursion (λ row. IsPolicy row.default) rows → IsPolicy (default_of rows id)
default_is [] id all = grind (arith, nat_tests)
default_is (row ∷ rows) id all = grind (arith, nat_tests, default_is rows id all.1)

-- a file that stands at a place is there
standing_there : (w : World) (at : ℕ × List ℕ) (standing : Option ℕ) (file : ℕ) → HasParts w → file_standing (live_target w.names at.0 at.1) ≡ Ok standing → standing ≡ Some file → 0 < next_of w.files file
standing_there w at standing file k stood is = place_there w.files w.now w.names at.0 at.1 file (k.holds Names).each (standing_is (live_target w.names at.0 at.1) standing file stood is)

-- ---- bytes are saved

-- bytes that aren't too many may be a version of the file
pub saved_is : (w : World) (file : ℕ) (bytes : List ℕ) → 0 < next_of w.files file → length bytes ≤ longest_content → MayMakeVersion w → MayAppend w file w.now (cells_by (next_of w.files file) bytes)
saved_is w file bytes there short room = grind (arith, nat_tests, written_short, written_fills, written_by)

saves : (event : Event) (w : World) (file : ℕ) (bytes : List ℕ) → 0 < next_of w.files file → length bytes ≤ longest_content → MayPlan event w (save_plan w file bytes)
saves event w file bytes there short = λ drafts versions. (saved_is w file bytes there short (grind (arith, nat_tests)), tt)

-- and of a new file, behind its first one
made_saved : (w : World) (at : ℕ × List ℕ) (policy : Policy) (bytes : List ℕ) → HasParts w → w.made.versions + 1 + length w.drafts < w.limits.versions → length bytes ≤ longest_content
    → MayAppend (after_change w (MakeFile at.0 at.1 (w.made.files + 1) policy)) (w.made.files + 1) w.now (cells_by 2 bytes)
made_saved w at policy bytes k room short =
    let id = w.made.files + 1 in
    let next = next_of-new w.made.files w.made.versions w.files (new_file id policy) (k.holds Files).each (omega arith) in
    rw (made_is w at.0 at.1 policy k) (record {
      there = omega (arith, next);
      by_now = omega arith;
      room = omega (arith, room);
      content = record { short = written_short 2 0 bytes [] (omega arith) (omega (arith, short)); slots = written_fills 2 0 bytes [] };
      written = rw next (written_by 2 0 bytes [] tt);
    })

saves_new : (event : Event) (w : World) (path : List (List ℕ)) (at : ℕ × List ℕ) (bytes : List ℕ) → HasParts w → parent_now w.names path ≡ Ok at → is_some (live_target w.names at.0 at.1) ≡ false → length bytes ≤ longest_content → MayPlan event w (save_new_plan w at bytes)
saves_new event w path at bytes k found free short = λ files names versions.
    let policy = default_of w.directories at.0 in (
      record {
        next = refl;
        files = grind (arith, nat_tests);
        named = may_name w path at k found free names;
        room = grind (arith, nat_tests);
        valid = default_is w.directories at.0 (k.holds Directories).policies;
      },
      (made_saved w at policy bytes k (grind (arith, nat_tests)) short, tt),
    )

-- ---- each event

pub allowed : (w : World) (event : Event) → HasParts w → MayPlan event w (plan w event)
allowed w (MakeDir path) k = search (rules, k.holds Directories, may_name, default_is)
allowed w (Create path) k = search (rules, k.holds Directories, may_name, default_is)
allowed w (Undelete path) k = search (rules, may_add, may_name, may_revive)
allowed w (OpenWrite path) k = search (rules, k.holds Names, file_there, begun)
allowed w (OpenRead tagged) k = λ row found handles. (record { next = refl; room = grind (arith, nat_tests); drafted = tt; held = meant_held w row.file row (is_at w tagged row found) }, tt)
allowed w (Close handle) k = λ read found. (
  λ reader. (tt, tt),
  λ file writes. (
    λ other. (tt, tt),
    λ last. (
      λ none. (tt, tt),
      λ draft drafted. (λ changed. (tt, (last, (finishes w handle file draft k drafted, tt))), λ same. (tt, (last, (tt, tt)))),
    ),
  ),
)
allowed w (Abandon handle) k = λ file writes. (λ other. (tt, tt), λ last. (tt, (last, (tt, tt))))
allowed w (Save path bytes) k = λ at found standing stood fits. (
  λ none. saves_new (Save path bytes) w path at bytes k found (standing_free _ standing stood none) (grind (arith, nat_tests)),
  λ file is. saves (Save path bytes) w file bytes (standing_there w at standing file k stood is) (grind (arith, nat_tests)),
)
allowed w (Revert path number) k = λ file found row meant drafts versions. (repeats w file row k (is_meant w.files w.versions file (tag.Number number) row meant) (grind (arith, nat_tests)), tt)
allowed w (Restore path moment) k = λ row was at found standing stood.
    let meant = then_is w path moment row was in
    let short = short_is w row.file row k meant in (
      λ none.
          let free = standing_free _ standing stood none in (
            λ live. saves_new (Restore path moment) w path at (content_of row.cells) k found free short,
            λ nameless drafts names versions. (may_revive_as w at row.file row.number (may_name w path at k found free names) nameless (meant_held w row.file row meant) (grind (arith, nat_tests)), tt),
          ),
      λ file is. (
        λ own drafts versions. (repeats w file row k (own_is w file row own meant) (grind (arith, nat_tests)), tt),
        λ other. saves (Restore path moment) w file (content_of row.cells) (standing_there w at standing file k stood is) short,
      ),
    )
allowed w CleanOne k = grind (arith, nat_tests, takes)
allowed w (Read source) k = grind (arith, nat_tests)
allowed w event k = grind (arith, nat_tests, k.holds Directories, k.holds Names, may_name, all-found, file_there, file_live, last_names, file_of, last_leads)
