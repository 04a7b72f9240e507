-- The directories of names.
use Rattle.ele_model.proofs.Basics.{◌≡◌, ℕ, ◌≤◌, Bool, true, ◌==◌, ◌||◌, List, [], ◌∷◌, ◌++◌, Ok, refl, arith, AllByRecursion, list_any, false≢true, nat_tests, list_any-append, all-push, all-weaker, all-found, found_passes, list_any-update_first}
use Rattle.ele_model.proofs.Basics.{any-found, update_first}
use Rattle.ele_model.proofs.Words.{is_name_of_directory, dies, parent_now, has_directory, is_directory, is_reached, IsDirectoryThere, IsHoused, Directories, Homes, HasParts, AreHoused, IsOfLive, World, root, DirectoryRow, NameRow, Target, File}
use Rattle.ele_model.proofs.Words.{Directory, VersionRow}
use Rattle.ele_lists.proofs.Cuts.{any-found as first_passing}
use Rattle.ele_model.proofs.Walks.{live_row, parent_is, walk_to}
use Rattle.ele_model.proofs.NameParts.{still_none}

-- what one more makes so was so, where it was so whenever that one is
pub any_less : {X : Type 0} (p : X → Bool) (xs : List X) (y : X) → (p y ≡ true → list_any p xs ≡ true) → list_any p (xs ++ y ∷ []) ≡ true → list_any p xs ≡ true
any_less p xs y from h = grind (arith, nat_tests, list_any-append, false≢true)

-- what was of a live file is so
pub ended_more : (names : List NameRow) (named : NameRow) (versions : List VersionRow) → AllByRecursion (IsOfLive names) versions → AllByRecursion (IsOfLive (names ++ named ∷ [])) versions
ended_more names named versions each = grind (arith, nat_tests, all-weaker, list_any-append)

-- ---- the directory of a path's last name

-- a directory there that a path leads to
abbrev IsHome : List DirectoryRow → List NameRow → Target → Type 0
IsHome directories names (File file) = Unit {0}
IsHome directories names (Directory directory) = (has_directory directories directory ≡ true) × (is_reached names directory ≡ true)

pub parent_home : (w : World) (path : List (List ℕ)) (at : ℕ × List ℕ) → HasParts w → parent_now w.names path ≡ Ok at → (has_directory w.directories at.0 ≡ true) × (is_reached w.names at.0 ≡ true)
parent_home w path at k found =
    let parent = parent_is w.names path at found in
    walk_to (IsHome w.directories w.names) w.names (λ directory name target. grind (arith, nat_tests, k.holds Homes, live_row, all-found, still_none, found_passes, any-found)) (Directory root) (Directory at.0) parent.front ((k.holds Directories).rooted, refl) parent.leads

-- ---- a name more

-- each name is where it was, and the new one is in a directory that is there
pub named_housed : (directories more : List DirectoryRow) (names : List NameRow) (named : NameRow)
    → ((id : ℕ) → has_directory directories id ≡ true → has_directory more id ≡ true)
    → has_directory directories named.directory ≡ true → is_reached names named.directory ≡ true → IsDirectoryThere more named.target
    → AllByRecursion (IsHoused directories names) names → AllByRecursion (IsHoused more (names ++ named ∷ [])) (names ++ named ∷ [])
named_housed directories more names named wider home reached there each = grind (arith, nat_tests, all-push (IsHoused more (names ++ named ∷ [])) names named, all-weaker (IsHoused directories names) (IsHoused more (names ++ named ∷ [])) names, list_any-append)

-- the root, or a directory that has a name, live or dead
abbrev pub HasName : List NameRow → DirectoryRow → Type 0
HasName names row = ((row.id == root) || list_any (is_name_of_directory row.id) names) ≡ true

pub named_more : (directories : List DirectoryRow) (names : List NameRow) (named : NameRow) → AllByRecursion (HasName names) directories → AllByRecursion (HasName (names ++ named ∷ [])) directories
named_more directories names named = grind (arith, nat_tests, all-weaker, list_any-append)

pub named_end : (now : ℕ) (p : NameRow → Bool) (directories : List DirectoryRow) (names : List NameRow) → AllByRecursion (HasName names) directories → AllByRecursion (HasName (update_first p (dies now) names)) directories
named_end now p directories names = grind (arith, nat_tests, all-weaker, list_any-update_first)

pub homes_more : (directories : List DirectoryRow) (names : List NameRow) (named : NameRow) → has_directory directories named.directory ≡ true → is_reached names named.directory ≡ true → IsDirectoryThere directories named.target → AreHoused directories names → AreHoused directories (names ++ named ∷ [])
homes_more directories names named home reached there are = grind (arith, nat_tests, named_housed, named_more)

-- a directory that is there has a number that was given
pub directory_given : (made : ℕ) (rows : List DirectoryRow) (id : ℕ) → AllByRecursion (λ row. row.id ≤ made) rows → has_directory rows id ≡ true → id ≤ made
directory_given made rows id all h = grind (arith, nat_tests, first_passing (is_directory id) rows, found_passes, all-found)
