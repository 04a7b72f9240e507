-- Due versions may be removed at once or one by one in any order: the other due ones stay due, and no other becomes due.
use Rattle.std.specs.Prelude.{◌≡◌, ℕ, Bool, true, not, filter}
use Rattle.ele_model.specs.Due.{is_due, kept_rows}
use Rattle.ele_model.specs.RipeRows.{due_rows}
use Rattle.ele_model.specs.WellFormed.{IsWellFormed}
use Rattle.ele_model.specs.World.{World}

-- each version that the test names, by file and number, is held and due
abbrev pub AreDue : World → (ℕ → ℕ → Bool) → Type 0
AreDue w gone = (file number : ℕ) → gone file number ≡ true → is_due w file number ≡ true

-- the world without those versions
abbrev pub without_versions : (ℕ → ℕ → Bool) → World → World
without_versions gone w = record w { versions = filter (λ row. not (gone row.file row.number)) w.versions }

-- the world after is well formed; its due rows are those before without the removed ones, and its kept rows those before
pub record LeavesOthersDue (w : World) (gone : ℕ → ℕ → Bool) (after : World) : Type 0 where
  pub well_formed : IsWellFormed after
  pub due : due_rows after ≡ filter (λ row. not (gone row.file row.number)) (due_rows w)
  pub kept : kept_rows after ≡ kept_rows w

abbrev pub AnyDueLeave : Type 0
AnyDueLeave = (w : World) (gone : ℕ → ℕ → Bool) → IsWellFormed w → AreDue w gone → LeavesOthersDue w gone (without_versions gone w)
