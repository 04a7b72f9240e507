-- What a policy event, a default event and a mark change, and that nothing else changes.
use Rattle.ele_model.proofs.Basics.{nat_tests, arith, ◌≡◌, ℕ, ◌==◌, Bool, Option, true, false, List, [], ◌∷◌, map, Ok, refl, option_map_or, list_any, update_first, find-update_other, list_any-update_first, all-found}
use Rattle.ele_model.proofs.Words.{World, Policy, HasParts, Names, Homes, Directories, IsDirectoryThere, SetDirectoryDefault, SetFilePolicy, AddMark, after_change, directory_in, directory_now, file_now, governed_by, has_directory, has_member, is_directory, is_file, is_group, is_member, members_of, marks, set_policy, root, walk_now, step}
use Rattle.ele_world.proofs.Words.{FileRow, DirectoryRow, Directory, GroupRow, MarkRow}
use Rattle.ele_world.specs.DefaultGoverns.{GovernsDirectory}
use Rattle.ele_world.specs.MarkMarks.{MarksMoment}
use Rattle.ele_world.specs.PolicyGoverns.{GovernsFile}
use Rattle.ele_lists.proofs.Cuts.{any-found as first_passing}
use Rattle.ele_model.proofs.Elements.{find-updated, find-update_still}
use Rattle.ele_model.proofs.Files.{next_of-set_policy}
use Rattle.ele_model.proofs.MarksChanged.{marked_more}
use Rattle.ele_model.proofs.PlanOutcomes.{in_all}
use Rattle.ele_model.proofs.Walks.{file_there, live_row, walk_to}
use Rattle.ele_model.specs.declared.reply.Reply.TheVariants as told
use Rattle.ele_model.specs.declared.event.Event.TheVariants as asked

map-update_first : {X Y : Type 0} (see : X → Y) (p : X → Bool) (f : X → X) (xs : List X) → ((x : X) → see (f x) ≡ see x) → map see (update_first p f xs) ≡ map see xs
map-update_first see p f [] same = refl
map-update_first see p f (x ∷ xs) same = grind (arith, nat_tests, map-update_first see p f xs same)

-- ---- a policy

governs : (w : World) (path : List (List ℕ)) (policy : Policy) → HasParts w → (file : ℕ) → file_now w.names path ≡ Ok file → GovernsFile w path policy (after_change w (SetFilePolicy file policy))
governs w path policy k file named = record {
  file = file;
  named = named;
  governs = grind (arith, nat_tests, file_there w.files w.now w.names path file (k.holds Names).each named, find-updated (is_file file) (set_policy policy) w.files);
  next = next_of-set_policy w.files file file policy;
  others = λ other apart. find-update_other (is_file file) (is_file other) (set_policy policy) w.files (λ row is. grind (arith, nat_tests, is, apart));
  files = map-update_first (λ (row : FileRow). row.id) (is_file file) (set_policy policy) w.files (λ row. refl);
  rest = refl;
}

pub policy_governs : (w : World) (path : List (List ℕ)) (policy : Policy) → HasParts w → (step w (asked.SetPolicy path policy)).0 ≡ told.Done → GovernsFile w path policy ((step w (asked.SetPolicy path policy)).1)
policy_governs w path policy k = grind (arith, nat_tests, in_all, governs w path policy k)

-- ---- a default

directory_there : (w : World) (path : List (List ℕ)) (directory : ℕ) → HasParts w → directory_now w.names path ≡ Ok directory → has_directory w.directories directory ≡ true
directory_there w path directory k named =
    walk_to (IsDirectoryThere w.directories) w.names (λ home name target. grind (arith, nat_tests, k.holds Homes, live_row, all-found)) (Directory root) (Directory directory) path (k.holds Directories).rooted (leads (walk_now w.names path) named) where
      leads : (r : _) → directory_in r ≡ Ok directory → r ≡ Ok (Directory directory)
      leads r h = grind (arith, nat_tests)

gives : (w : World) (path : List (List ℕ)) (policy : Policy) → HasParts w → (directory : ℕ) → directory_now w.names path ≡ Ok directory → GovernsDirectory w path policy (after_change w (SetDirectoryDefault directory policy))
gives w path policy k directory named = record {
  directory = directory;
  named = named;
  governs = grind (arith, nat_tests, first_passing (is_directory directory) w.directories (directory_there w path directory k named), find-updated (is_directory directory) (governed_by policy) w.directories);
  others = λ other apart. find-update_other (is_directory directory) (is_directory other) (governed_by policy) w.directories (λ row is. grind (arith, nat_tests, is, apart));
  directories = map-update_first (λ (row : DirectoryRow). row.id) (is_directory directory) (governed_by policy) w.directories (λ row. refl);
  rest = refl;
}

pub default_governs : (w : World) (path : List (List ℕ)) (policy : Policy) → HasParts w → (step w (asked.SetDefault path policy)).0 ≡ told.Done → GovernsDirectory w path policy ((step w (asked.SetDefault path policy)).1)
default_governs w path policy k = grind (arith, nat_tests, in_all, gives w path policy k)

-- ---- a mark

has-members : (rows : List GroupRow) (name : List ℕ) (file : ℕ) → list_any (λ member. member == file) (members_of rows name) ≡ has_member rows name file
has-members rows name file = grind (arith, nat_tests)

marks_moment : (w : World) (name : List ℕ) (mark : MarkRow) → MarksMoment w name mark (after_change w (AddMark name mark))
marks_moment w name mark = record {
  marked = λ file closed ended at. grind (arith, nat_tests, marked_more w.groups name file closed ended at mark, has-members w.groups name file);
  groups = λ other. list_any-update_first (is_group name) (is_group other) (marks mark) w.groups (λ row is. refl);
  members = λ other file. find-update_still (is_group name) (is_group other) (λ found. option_map_or (is_member file) found false) (marks mark) w.groups (λ row. refl) (λ row. refl);
  rest = refl;
}

pub mark_marks : (w : World) (name : List ℕ) (mark : ℕ) (until : Option ℕ) → HasParts w → (step w (asked.Mark name mark until)).0 ≡ told.Done
    → MarksMoment w name (record { at = mark; until = until }) ((step w (asked.Mark name mark until)).1)
mark_marks w name mark until k = grind (arith, nat_tests, in_all, marks_moment w name (record { at = mark; until = until }))
