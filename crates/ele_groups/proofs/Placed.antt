-- The names of each file's groups, after a change of the groups.
use Rattle.ele_groups.proofs.Basics.{◌≡◌, ℕ, ◌==◌, false, cond, ◌&&◌, ◌||◌, not, List, [], ◌∷◌, Option, Some, None, arith, bytes_eq, option_map, nat_tests, list_any-append}
use Rattle.ele_groups.proofs.Words.{GroupRow, Memberships, AreOf, adds, changed_at, has, has_file, is_member, row_at, new_group}
use Rattle.ele_groups.proofs.Named.{Entries, changed_here, changed_elsewhere, same_name}

-- a group gets the file
pub placed_come : (file : ℕ) (name : List ℕ) (row : GroupRow) (old new : Memberships) (es : Entries) → AreOf (row_at es) old → row_at es name ≡ Some row
    → ((q : ℕ) (n : List ℕ) → has new q n ≡ (has old q n || (file == q && bytes_eq name n)))
    → AreOf (row_at (changed_at name (adds file) es)) new
placed_come file name row old new es placed there changed = record { each = λ q n. grind (arith, nat_tests, changed q n, placed.each q n, there, same_name name n, changed_here name (adds file) es, changed_elsewhere name (adds file) es n, option_map, list_any-append (λ member. member == q) row.members (file ∷ [])) }

-- or loses it
pub placed_gone : (file : ℕ) (name : List ℕ) (f : GroupRow → GroupRow) (old new : Memberships) (es : Entries) → AreOf (row_at es) old
    → ((q : ℕ) (n : List ℕ) → has new q n ≡ (has old q n && not (file == q && bytes_eq name n)))
    → ((q : ℕ) → has_file q (row_at (changed_at name f es) name) ≡ (has_file q (row_at es name) && not (file == q)))
    → AreOf (row_at (changed_at name f es)) new
placed_gone file name f old new es placed changed members = record { each = λ q n. grind (arith, nat_tests, changed q n, placed.each q n, same_name name n, members q, changed_elsewhere name f es n) }

-- a file that was added and removed again
pub placed_undone : (file : ℕ) (name : List ℕ) (old mid new : Memberships) (at : List ℕ → Option GroupRow) → AreOf at old → has_file file (at name) ≡ false
    → ((q : ℕ) (n : List ℕ) → has mid q n ≡ (has old q n || (file == q && bytes_eq name n)))
    → ((q : ℕ) (n : List ℕ) → has new q n ≡ (has mid q n && not (file == q && bytes_eq name n)))
    → AreOf at new
placed_undone file name old mid new at placed fresh put taken = record { each = λ q n. grind (arith, nat_tests, put q n, taken q n, placed.each q n, same_name name n) }

-- a group is added, without files
pub placed_new : (name : List ℕ) (old : Memberships) (at to : List ℕ → Option GroupRow) → AreOf at old → at name ≡ None
    → ((n : List ℕ) → to n ≡ cond (bytes_eq name n) (Some (new_group name)) (at n))
    → AreOf to old
placed_new name old at to placed free come = record { each = λ q n. grind (arith, nat_tests, come n, placed.each q n, same_name name n) }

-- or leaves
pub placed_without : (name : List ℕ) (row : GroupRow) (old new : Memberships) (at to : List ℕ → Option GroupRow) → AreOf at old → at name ≡ Some row
    → ((n : List ℕ) → to n ≡ cond (bytes_eq name n) None (at n))
    → ((q : ℕ) (n : List ℕ) → has new q n ≡ (has old q n && not (bytes_eq name n && is_member q row)))
    → AreOf to new
placed_without name row old new at to placed there gone changed = record { each = λ q n. grind (arith, nat_tests, gone n, changed q n, placed.each q n, same_name name n) }
