-- Versions that handles read.
use Rattle.ele_model.proofs.Basics.{arith, ◌≡◌, ℕ, true, false, ◌==◌, List, [], ◌∷◌, refl, list_any, nat_tests, all-weaker, Some, Ok, find}
use Rattle.ele_model.proofs.Words.{numbers_read, AreHeldRead, is_open, is_version, HandleRow, VersionRow, World, Reads, Draft, file_by, is_handle, reads_by}

-- a version is open if its number is among those of its file that are read
pub numbers_are : (rows : List HandleRow) (file number : ℕ) → list_any (λ n. n == number) (numbers_read rows file) ≡ is_open rows file number
numbers_are [] file number = refl
numbers_are (row ∷ rows) file number = grind (arith, nat_tests, numbers_are rows file number)

-- what is read is held in any versions in which each of the former is
pub read_on : (versions after : List VersionRow) (rows : List HandleRow) → ((file number : ℕ) → list_any (is_version file number) versions ≡ true → list_any (is_version file number) after ≡ true)
    → AreHeldRead versions rows → AreHeldRead after rows
read_on versions after rows on all = grind (arith, nat_tests, all-weaker)

-- so what isn't held isn't read
pub unread_unheld : (versions : List VersionRow) (rows : List HandleRow) (file number : ℕ) → AreHeldRead versions rows → list_any (is_version file number) versions ≡ false → is_open rows file number ≡ false
unread_unheld versions [] file number all none = refl
unread_unheld versions (row ∷ rows) file number all none = grind (arith, nat_tests, unread_unheld versions rows file number all.1 none)

-- the handle's row
pub record HasRow (w : World) (handle : ℕ) (reads : Reads) : Type 0 where
  pub row : HandleRow
  pub found : find (is_handle handle) w.handles ≡ Some row
  pub its : row.reads ≡ reads

pub has_row : (w : World) (handle : ℕ) (reads : Reads) → reads_by w.handles handle ≡ Ok reads → HasRow w handle reads
has_row w handle reads is = grind (arith, nat_tests)

-- a writer reads its file's draft
pub reads_draft : (w : World) (handle file : ℕ) → file_by w.handles handle ≡ Ok file → reads_by w.handles handle ≡ Ok (Draft file)
reads_draft w handle file written = grind (arith, nat_tests)
