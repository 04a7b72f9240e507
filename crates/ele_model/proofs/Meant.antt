-- The version that a tag or a moment means is one of its file that is held.
use Rattle.ele_model.proofs.Basics.{◌≡◌, ◌==◌, ℕ, Bool, true, List, Some, arith, find, Result, Ok, Err, nat_tests, found_passes, any-found}
use Rattle.ele_model.proofs.Words.{Tag, TaggedPath, version_meant, version_numbered, version_at, row_then, version_then, walk_at, World, is_held, is_version, FileRow, Refusal, Target, VersionRow}
use Rattle.ele_path.specs.declared.tagged.Tag.TheVariants as tag

-- it was found by a test that only the file's versions pass
pub record IsMeant (versions : List VersionRow) (file : ℕ) (row : VersionRow) : Type 0 where
  pub passes : VersionRow → Bool
  pub found : find passes versions ≡ Some row
  pub own : row.file ≡ file

pub numbered_found : (versions : List VersionRow) (file number : ℕ) (row : VersionRow) → version_numbered versions file number ≡ Ok row → find (is_version file number) versions ≡ Some row
numbered_found versions file number row is = grind (arith, nat_tests)

-- a number that was made
pub made_of : (files : List FileRow) (versions : List VersionRow) (file number : ℕ) (row : VersionRow) → version_meant files versions file (tag.Number number) ≡ Ok row → version_numbered versions file number ≡ Ok row
made_of files versions file number row is = grind (arith, nat_tests)

pub is_meant : (files : List FileRow) (versions : List VersionRow) (file : ℕ) (t : Tag) (row : VersionRow) → version_meant files versions file t ≡ Ok row → IsMeant versions file row
is_meant files versions file t row is = grind (arith, nat_tests, found_passes)

pub meant_held : (w : World) (file : ℕ) (row : VersionRow) → IsMeant w.versions file row → is_held w row.file row.number ≡ true
meant_held w file row is = any-found is.passes (is_version row.file row.number) w.versions row is.found (grind (arith, nat_tests))

-- the version that a tagged path means
pub is_at : (w : World) (tagged : TaggedPath) (row : VersionRow) → version_at w tagged ≡ Ok row → IsMeant w.versions row.file row
is_at w tagged row is = grind (arith, nat_tests, is_meant w.files w.versions)

-- the version that a path had at a moment
row_is : (w : World) (path : List (List ℕ)) (moment : ℕ) (row : VersionRow) (led : Result Target Refusal) → row_then w path moment led ≡ Ok row → IsMeant w.versions row.file row
row_is w path moment row (Ok target) is = grind (arith, nat_tests, is_meant w.files w.versions)
row_is w path moment row (Err refusal) is = grind (arith, nat_tests, found_passes)

pub then_is : (w : World) (path : List (List ℕ)) (moment : ℕ) (row : VersionRow) → version_then w path moment ≡ Ok row → IsMeant w.versions row.file row
then_is w path moment row = row_is w path moment row (walk_at w.names moment w.now path)

-- it may be one of the file that stands there now
pub own_is : (w : World) (file : ℕ) (row : VersionRow) → (row.file == file) ≡ true → IsMeant w.versions row.file row → IsMeant w.versions file row
own_is w file row own is = let same : row.file ≡ file = grind (arith, nat_tests, own) in rw (← same) is
