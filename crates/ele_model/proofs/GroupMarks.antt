-- What the marks of groups say of a file, and which changes of groups leave it.
use Rattle.ele_model.proofs.Basics.{◌≡◌, ℕ, ◌==◌, ◌&&◌, Bool, false, not, List, [], ◌∷◌, Option, refl, sym, ◌∙◌, arith, filter, flat_map, list_any, nat_tests, list_any-append, list_any-filter}
use Rattle.ele_model.proofs.Words.{GroupRow, MarkRow, cover_of, lasts, forgotten, is_marked, is_member, keeps_at, marks_over}
use Rattle.ele_model.proofs.Covers.{lasts_by}

-- what is true of some mark of some of the groups
pub any_over : (q : MarkRow → Bool) (p : GroupRow → Bool) (of : GroupRow → List MarkRow) (rows : List GroupRow) → list_any q (flat_map of (filter p rows)) ≡ list_any (λ row. p row && list_any q (of row)) rows
any_over q p of [] = refl
any_over q p of (row ∷ rows) = grind (arith, nat_tests, list_any-append, any_over q p of rows)

-- a file's marks cover what groups that have it cover
pub marks_tell : (rows : List GroupRow) (file closed : ℕ) (ended : Option ℕ) (at : ℕ) → list_any (keeps_at closed ended at) (marks_over rows file) ≡ is_marked rows file closed ended at
marks_tell rows file closed ended at = any_over (keeps_at closed ended at) (is_member file) (λ row. row.marks) rows

-- what is marked is kept as long as its cover lasts
pub marked_lasts : (rows : List GroupRow) (file closed : ℕ) (ended : Option ℕ) (at : ℕ) → is_marked rows file closed ended at ≡ lasts (cover_of rows file closed ended) at
marked_lasts rows file closed ended at = sym (marks_tell rows file closed ended at) ∙ lasts_by closed ended at (marks_over rows file)

-- if a file is forgotten, any other has the marks that it had
pub marks_forgotten : (rows : List GroupRow) (file other : ℕ) → (other == file) ≡ false → marks_over (forgotten file rows) other ≡ marks_over rows other
marks_forgotten [] file other apart = refl
marks_forgotten (row ∷ rows) file other apart = grind (arith, nat_tests, list_any-filter (λ member. member == other) (λ member. not (member == file)) row.members, marks_forgotten rows file other apart)
