-- The live names are one tree from the root, after each event and so in every run, and no directory is in itself.
use Rattle.ele_model.proofs.Basics.{rules, nat_tests, arith, ◌≡◌, ℕ, suc, zero, ◌+◌, ◌==◌, ◌&&◌, Bool, true, false, List, [], ◌∷◌, ◌++◌, Some, None, Ok, refl, find, filter, AllByRecursion, list_any, update_first, all-both, all-filter, all-found, all-none, all-push, all-update_first, all-weaker, any-found, found_passes, list_any-append, list_any-filter, list_any-update_found, last_has}
use Rattle.ele_model.proofs.Words.{World, IsEvent, ShutHandle, EndDraft, Take, HasParts, DropIdle, after_change, born_row, content_of, dies, is_live_directory, is_live_in, is_live_name, is_target_directory, last_target, is_named, live_target, parent_now, plan, root, run_of, save_new_plan, step, walk, walk_now}
use Rattle.ele_model.specs.declared.event.Event.TheVariants.{RemoveDir}
use Rattle.ele_world.proofs.Words.{Event, MakeDir, Create, Link, Unlink, Undelete, Rename, Close, Abandon, Save, Restore, CleanOne, Read, NameRow, Target, File, Directory}
use Rattle.ele_model.specs.OneTree.{Hangs, IsOneTree, hangs_by}
use Rattle.ele_lists.proofs.Cuts.{any-found as first_passing}
use Rattle.ele_model.proofs.Dropped.{dropped, stays_named}
use Rattle.ele_model.proofs.PlanOutcomes.{AfterAll, in_all}
use Rattle.ele_model.proofs.StepKeeps.{step_keeps}
use Rattle.ele_model.proofs.Walks.{live_row, parent_is, last_names, last_leads, file_of}
use Rattle.ele_world.proofs.NameEnds.{rename_leads}

-- a live name of the directory, in that one
abbrev pub is_under : ℕ → ℕ → NameRow → Bool
is_under id directory row = is_live_directory id row && (row.directory == directory)

-- what hangs by one name more is under what hangs
pub above : (names : List NameRow) (depth id : ℕ) → hangs_by names (suc depth) id ≡ true → (directory : ℕ) × (list_any (is_under id directory) names ≡ true) × (hangs_by names depth directory ≡ true)
above names depth id h =
    let (row, found) = first_passing (λ (row : NameRow). is_live_directory id row && hangs_by names depth row.directory) names h in
    let passes = found_passes (λ (row : NameRow). is_live_directory id row && hangs_by names depth row.directory) names row found in
    (row.directory, any-found (λ (row : NameRow). is_live_directory id row && hangs_by names depth row.directory) (is_under id row.directory) names row found (grind (arith, nat_tests, passes)), grind (arith, nat_tests, passes))

pub below : (names : List NameRow) (depth id directory : ℕ) → list_any (is_under id directory) names ≡ true → hangs_by names depth directory ≡ true → hangs_by names (suc depth) id ≡ true
below names depth id directory h is =
    let (row, found) = first_passing (is_under id directory) names h in
    let passes = found_passes (is_under id directory) names row found in
    any-found (is_under id directory) (λ (row : NameRow). is_live_directory id row && hangs_by names depth row.directory) names row found (grind (arith, nat_tests, passes, is))

-- what is true of the root, and of each directory in one of which it is true, is true of each below the root
carried : (names : List NameRow) (P : ℕ → Type 0) → P root → ((id directory : ℕ) → list_any (is_under id directory) names ≡ true → P directory → P id) → (depth id : ℕ) → hangs_by names depth id ≡ true → P id
carried names P top under zero id h = let same : id ≡ root = grind (arith, nat_tests) in rw same top
carried names P top under (suc depth) id h = let (directory, is, hung) = above names depth id h in under id directory is (carried names P top under depth directory hung)

-- so what was below the root still is, if its parent is
hangs_still : (names after : List NameRow) → ((id directory : ℕ) → list_any (is_under id directory) names ≡ true → Hangs after directory → Hangs after id) → (id : ℕ) → Hangs names id → Hangs after id
hangs_still names after under id (depth, h) = carried names (Hangs after) (zero, refl) under depth id h

hangs_under : (after : List NameRow) (id directory : ℕ) → list_any (is_under id directory) after ≡ true → Hangs after directory → Hangs after id
hangs_under after id directory is (depth, h) = (suc depth, below after depth id directory is h)

-- each live name in a directory that hangs among these names
abbrev Hang : List NameRow → List NameRow → Type 0
Hang after names = AllByRecursion (λ row. row.death ≡ None → Hangs after row.directory) names

abbrev pub IsOther : Target → Type 0
IsOther target = is_target_directory root target ≡ false

-- ---- the directory of a path's last name

abbrev HangsAt : List NameRow → Target → Type 0
HangsAt names (File file) = Unit {0}
HangsAt names (Directory id) = Hangs names id

target_hangs : (names : List NameRow) (row : NameRow) (target : Target) (directory : ℕ) (name : List ℕ) → Hangs names directory → find (is_live_name directory name) names ≡ Some row → row.target ≡ target → HangsAt names target
target_hangs names row (File file) directory name hung found is = tt
target_hangs names row (Directory id) directory name hung found is = hangs_under names id directory (any-found (is_live_name directory name) (is_under id directory) names row found (grind (arith, nat_tests, found_passes (is_live_name directory name) names row found))) hung

name_hangs : (names : List NameRow) (directory : ℕ) (name : List ℕ) (target : Target) → Hangs names directory → live_target names directory name ≡ Some target → HangsAt names target
name_hangs names directory name target hung = live_row (HangsAt names) names directory name target (λ row found. target_hangs names row row.target directory name hung found refl)

walk_hangs : (names : List NameRow) (at target : Target) (path : List (List ℕ)) → HangsAt names at → walk names at path ≡ Ok target → HangsAt names target
walk_hangs names at target [] hung h = let same : at ≡ target = cc in rw (← same) hung
walk_hangs names (File file) target (name ∷ path) hung h = absurd cc
walk_hangs names (Directory directory) target (name ∷ path) hung h = grind (arith, nat_tests, name_hangs names directory name, (λ (next : Target). walk_hangs names next target path))

parent_hangs : (names : List NameRow) (path : List (List ℕ)) (at : ℕ × List ℕ) → parent_now names path ≡ Ok at → Hangs names at.0
parent_hangs names path at found = let parent = parent_is names path at found in walk_hangs names (Directory root) (Directory at.0) parent.front (zero, refl) parent.leads

of_directory : (names : List NameRow) (target : Target) (id : ℕ) → is_target_directory id target ≡ true → HangsAt names target → Hangs names id
of_directory names (File file) id is hung = absurd cc
of_directory names (Directory directory) id is hung = let same : directory ≡ id = grind (arith, nat_tests, is) in rw (← same) hung

-- ---- a name more

module _ (names : List NameRow) (row : NameRow) where
  abbrev longer : List NameRow
  longer = names ++ row ∷ []

  hangs_more : (id : ℕ) → Hangs names id → Hangs longer id
  hangs_more = hangs_still names longer (λ id directory is. hangs_under longer id directory (rw (list_any-append (is_under id directory) names (row ∷ []), is) refl))

  more : IsOther row.target → Hangs names row.directory → IsOneTree names → IsOneTree longer
  more other hung tree = record { top = all-push (λ x. IsOther x.target) names row tree.top other; hang = all-push (λ x. x.death ≡ None → Hangs longer x.directory) names row (all-weaker (λ x. x.death ≡ None → Hangs names x.directory) (λ x. x.death ≡ None → Hangs longer x.directory) names (λ x hang live. hangs_more x.directory (hang live)) tree.hang) (λ live. hangs_more row.directory hung) }

-- ---- a name dies

module _ (now : ℕ) (names : List NameRow) (d : ℕ) (n : List ℕ) where
  abbrev p : NameRow → Bool
  p = is_live_name d n

  abbrev after : List NameRow
  after = update_first p (dies now) names

  top_still : AllByRecursion (λ row. IsOther row.target) names → AllByRecursion (λ row. IsOther row.target) after
  top_still = all-update_first p (λ row. IsOther row.target) (λ row. IsOther row.target) (dies now) names (λ row h. h) (λ row h. h)

  hang_still : (final : List NameRow) → Hang final names → Hang final after
  hang_still final = all-update_first p (λ row. row.death ≡ None → Hangs final row.directory) (λ row. row.death ≡ None → Hangs final row.directory) (dies now) names (λ row h dead. absurd cc) (λ row h. h)

  -- the live names of the other directories keep their places
  under_still : (moved : Target) → live_target names d n ≡ Some moved → (id directory : ℕ) → is_target_directory id moved ≡ false → list_any (is_under id directory) after ≡ list_any (is_under id directory) names
  under_still moved stands id directory other = list_any-update_found p (is_under id directory) (dies now) names (λ row found. grind (arith, nat_tests))

  -- the name is of a file
  file_ends : (file : ℕ) → live_target names d n ≡ Some (File file) → IsOneTree names → IsOneTree after
  file_ends file stands tree = record { top = top_still tree.top; hang = hang_still after (all-weaker (λ row. row.death ≡ None → Hangs names row.directory) (λ row. row.death ≡ None → Hangs after row.directory) names (λ row hang live. still row.directory (hang live)) tree.hang) } where
    still : (id : ℕ) → Hangs names id → Hangs after id
    still = hangs_still names after (λ id directory is. hangs_under after id directory (rw (under_still (File file) stands id directory refl) is))

  -- or of a directory without a live name
  module _ (gone : ℕ) (stands : live_target names d n ≡ Some (Directory gone)) (empty : list_any (is_live_in gone) names ≡ false) where
    full : (id directory : ℕ) → list_any (is_under id directory) names ≡ true → (gone == directory) ≡ false
    full id directory is =
        let (row, found) = first_passing (is_under id directory) names is in
        grind (arith, nat_tests, found_passes (is_under id directory) names row found, all-found (is_under id directory) (λ row. is_live_in gone row ≡ false) names row found (all-none (is_live_in gone) names empty))

    others_hang : (depth id : ℕ) → hangs_by names depth id ≡ true → (gone == id) ≡ false → Hangs after id
    others_hang = carried names (λ id. (gone == id) ≡ false → Hangs after id) (λ other. (zero, refl)) (λ id directory is hung other. hangs_under after id directory (rw (under_still (Directory gone) stands id directory other) is) (hung (full id directory is)))

    directory_ends : IsOneTree names → IsOneTree after
    directory_ends tree = record { top = top_still tree.top; hang = hang_still after (all-weaker (λ row. (is_live_in gone row ≡ false) × (row.death ≡ None → Hangs names row.directory)) (λ row. row.death ≡ None → Hangs after row.directory) names (λ row h live. let (depth, is) = h.1 live in others_hang depth row.directory is (grind (arith, nat_tests, h.0))) (all-both (λ row. is_live_in gone row ≡ false) (λ row. row.death ≡ None → Hangs names row.directory) names (all-none (is_live_in gone) names empty) tree.hang)) }

-- ---- a name moves, and the path that it gets leads to what is moved

module _ (w : World) (to : List (List ℕ)) (tree : IsOneTree w.names) (old at : ℕ × List ℕ) (moved : Target) (stands : live_target w.names old.0 old.1 ≡ Some moved) (home : Hangs w.names at.0) where
  abbrev remaining : List NameRow
  remaining = update_first (is_live_name old.0 old.1) (dies w.now) w.names

  abbrev final : List NameRow
  final = remaining ++ born_row at.0 at.1 moved w.now ∷ []

  other : IsOther moved
  other = live_row IsOther w.names old.0 old.1 moved (λ row found. all-found (is_live_name old.0 old.1) (λ row. IsOther row.target) w.names row found tree.top) stands

  moves : walk_now final to ≡ Ok moved → IsOneTree final
  moves leads = record { top = all-push (λ row. IsOther row.target) remaining (born_row at.0 at.1 moved w.now) (top_still w.now w.names old.0 old.1 tree.top) other; hang = all-push (λ row. row.death ≡ None → Hangs final row.directory) remaining (born_row at.0 at.1 moved w.now) (hang_still w.now w.names old.0 old.1 final (all-weaker (λ row. row.death ≡ None → Hangs w.names row.directory) (λ row. row.death ≡ None → Hangs final row.directory) w.names (λ row hang live. still row.directory (hang live)) tree.hang)) (λ live. still at.0 home) } where
    by : (b : Bool) (id directory : ℕ) → is_target_directory id moved ≡ b → list_any (is_under id directory) w.names ≡ true → Hangs final directory → Hangs final id
    by true id directory is under hung = of_directory final moved id is (walk_hangs final (Directory root) moved to (zero, refl) leads)
    by false id directory is under hung = hangs_under final id directory (rw (list_any-append (is_under id directory) remaining (born_row at.0 at.1 moved w.now ∷ []), under_still w.now w.names old.0 old.1 moved stands id directory is, under) refl) hung

    still : (id : ℕ) → Hangs w.names id → Hangs final id
    still = hangs_still w.names final (λ id directory. by (is_target_directory id moved) id directory refl)

-- ---- a file goes with its names

dropped_too : (w : World) (file : ℕ) → IsOneTree w.names → IsOneTree (after_change w (DropIdle file)).names
dropped_too w file tree = dropped (λ v. IsOneTree v.names) w file (λ idle. record { top = all-filter (λ row. IsOther row.target) (stays_named file) w.names tree.top; hang = all-filter (λ row. row.death ≡ None → Hangs (filter (stays_named file) w.names) row.directory) (stays_named file) w.names (all-weaker (λ row. row.death ≡ None → Hangs w.names row.directory) (λ row. row.death ≡ None → Hangs (filter (stays_named file) w.names) row.directory) w.names (λ row hang live. still row.directory (hang live)) tree.hang) }) (λ busy. tree) where
  still : (id : ℕ) → Hangs w.names id → Hangs (filter (stays_named file) w.names) id
  still = hangs_still w.names (filter (stays_named file) w.names) (λ id directory is. hangs_under (filter (stays_named file) w.names) id directory (rw (list_any-filter (is_under id directory) (stays_named file) w.names (λ row goes. grind (arith, nat_tests))) is))

-- ---- each event

lost_other : (rows : List NameRow) (directory : ℕ) (name : List ℕ) (lost : Target) → AllByRecursion (λ row. IsOther row.target) rows → last_target rows directory name ≡ Ok lost → IsOther lost
lost_other rows directory name lost all h = grind (arith, nat_tests, last_has (is_named directory name) (λ row. IsOther row.target) rows)

renamed : (w : World) (from to : List (List ℕ)) → HasParts w → IsOneTree w.names → AfterAll w (λ answer. IsOneTree (answer.1).names) (plan w (Rename from to))
renamed w from to k tree = λ old found moved leads at home apart free room. moves w to tree old at moved (last_names w.names from old moved found leads) (parent_hangs w.names to at home) (grind (arith, nat_tests, rename_leads w from to k))

-- a file has a name more
named_under : (w : World) (path : List (List ℕ)) (at : ℕ × List ℕ) (file : ℕ) → parent_now w.names path ≡ Ok at → IsOneTree w.names → IsOneTree (w.names ++ born_row at.0 at.1 (File file) w.now ∷ [])
named_under w path at file found = more w.names (born_row at.0 at.1 (File file) w.now) refl (parent_hangs w.names path at found)

file_comes : (w : World) (path : List (List ℕ)) (at : ℕ × List ℕ) (bytes : List ℕ) → parent_now w.names path ≡ Ok at → IsOneTree w.names → AfterAll w (λ answer. IsOneTree (answer.1).names) (save_new_plan w at bytes)
file_comes w path at bytes found tree = λ files names versions. named_under w path at (w.made.files + 1) found tree

stays_one : (w : World) (event : Event) → HasParts w → IsOneTree w.names → AfterAll w (λ answer. IsOneTree (answer.1).names) (plan w event)
stays_one w (Rename from to) k tree = renamed w from to k tree
stays_one w (Close handle) k tree = λ read found. (λ none. tree, λ file its. (λ other. tree, λ last. (λ none. tree, λ draft drafted. (λ changed. tree, λ same. dropped_too (after_change (after_change w (ShutHandle handle)) (EndDraft file)) file tree))))
stays_one w (Abandon handle) k tree = λ file its. (λ other. tree, λ last. dropped_too (after_change (after_change w (ShutHandle handle)) (EndDraft file)) file tree)
stays_one w CleanOne k tree = (λ none. tree, λ key first. dropped_too (after_change w (Take key.file key.number)) key.file tree)
stays_one w (Read source) k tree = grind (arith, nat_tests, tree)
stays_one w (RemoveDir path) k tree = λ at found directory leads empty. directory_ends w.now w.names at.0 at.1 directory (last_leads w.names path at directory found leads) empty tree
stays_one w (Unlink path) k tree = λ at found file leads. file_ends w.now w.names at.0 at.1 file (last_names w.names path at (File file) found (file_of (walk_now w.names path) file leads)) tree
stays_one w (Save path bytes) k tree = λ at found standing stood fits. (λ none. file_comes w path at bytes found tree, λ file is drafts versions. tree)
stays_one w (Restore path moment) k tree = λ row was at found standing stood. (
  λ none. (λ live. file_comes w path at (content_of row.cells) found tree, λ nameless drafts names versions. named_under w path at row.file found tree),
  λ file is. (λ own drafts versions. tree, λ other drafts versions. tree),
)
stays_one w (Undelete path) k tree = λ at found free lost last may. (
  λ named room. more w.names (born_row at.0 at.1 lost w.now) (lost_other w.names at.0 at.1 lost tree.top last) (parent_hangs w.names path at found) tree,
  λ file dead drafts room versions. named_under w path at file found tree,
)
stays_one w (MakeDir path) k tree = λ at found free few room. more w.names (born_row at.0 at.1 (Directory (w.made.directories + 1)) w.now) (grind (arith, nat_tests)) (parent_hangs w.names path at found) tree
stays_one w (Create path) k tree = λ at found free few room versions. named_under w path at (w.made.files + 1) found tree
stays_one w (Link from to) k tree = λ file leads at found free room. named_under w to at file found tree
stays_one w event k tree = search (rules, tree)

pub one_tree : (w : World) (event : Event) → HasParts w → IsOneTree w.names → IsOneTree ((step w event).1).names
one_tree w event k tree = in_all w (λ answer. IsOneTree (answer.1).names) (plan w event) (λ refusal. tree) (stays_one w event k tree)

pub runs_are : (w : World) (events : List Event) → AllByRecursion IsEvent events → HasParts w → IsOneTree w.names → IsOneTree (run_of w events).names
runs_are w [] are k tree = tree
runs_are w (event ∷ events) are k tree = runs_are ((step w event).1) events are.1 (step_keeps w event are.0 k) (one_tree w event k tree)
