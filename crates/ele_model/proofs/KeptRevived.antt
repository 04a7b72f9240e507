-- A file that has a name again, and a version like a held one of its own, keeps a world well formed.
use Rattle.ele_model.proofs.Basics.{◌≡◌, ℕ, ◌<◌, List, find, length-append, Some, arith, length, AllByRecursion, nat_tests, all-found, found_passes}
use Rattle.ele_model.proofs.Words.{after_change, Revive, version_cells, with_name, born_row, IsVersion, Part, Versions, HasParts, World, next_of, is_version, File, VersionRow}
use Rattle.ele_model.proofs.Homes.{any_less, homes_more, ended_more}
use Rattle.ele_model.proofs.KeptVersions.{HoldsBeside, append_completes}
use Rattle.ele_model.proofs.May.{MayName, MayRevive, MayAppend}
use Rattle.ele_model.proofs.Writers.{written_more}
use Rattle.ele_model.proofs.NameParts.{counted_more, names_more, tree_more}

-- the version that is found by a file and a number is of both, and holds what all do
pub record IsNumbered (w : World) (file number : ℕ) (row : VersionRow) : Type 0 where
  pub own : row.file ≡ file
  pub same : row.number ≡ number
  pub is : IsVersion w.files w.now row

pub numbered_is : (w : World) (file number : ℕ) (row : VersionRow) → AllByRecursion (IsVersion w.files w.now) w.versions → find (is_version file number) w.versions ≡ Some row → IsNumbered w file number row
numbered_is w file number row each found = grind (arith, nat_tests, found_passes, all-found)

module _ (w : World) (directory : ℕ) (name : List ℕ) (file number : ℕ) where
  abbrev named : World
  named = with_name w directory name (File file)

  -- a file's new name leaves all but that the file may have no current version
  pub named_holds : MayName w directory name → 0 < next_of w.files file → HasParts w → (part : Part) → HoldsBeside file named part
  named_holds may there k part = grind (arith, nat_tests, k.holds part, names_more w.files w.now w.names directory name (File file) may.free, homes_more w.directories w.names (born_row directory name (File file) w.now) may.home may.reached, counted_more w (length named.names) k may.room, length-append, tree_more, any_less, ended_more)

  -- a version like that one may be made
  pub again : MayRevive w directory name file number → AllByRecursion (IsVersion w.files w.now) w.versions → MayAppend named file w.now (version_cells w file number)
  again may each = grind (arith, nat_tests, numbered_is w file number may.row each may.held, written_more may.row.number (next_of w.files file) may.row.cells)

  pub revive_keeps : MayRevive w directory name file number → HasParts w → HasParts (after_change w (Revive directory name file number))
  revive_keeps may k = grind (arith, nat_tests, k.holds Versions, again may (k.holds Versions).each, append_completes named file w.now (version_cells w file number), named_holds may.named)
