-- Name rows stay in their order, except those of a dropped file: a birth never changes, and a death is set once, to now.
use Rattle.std.specs.Prelude.{◌≡◌, ◌⊎◌, ℕ, true, Bool, List, [], ◌∷◌, Some, None, filter}
use Rattle.std.specs.List.{AllByRecursion, list_any}
use Rattle.ele_model.specs.declared.event.Event.{Event}
use Rattle.ele_model.specs.declared.rows.FileRow.{FileRow}
use Rattle.ele_model.specs.declared.rows.NameRow.{NameRow}
use Rattle.ele_model.specs.declared.rows.Target.{Target}
use Rattle.ele_model.specs.declared.rows.Target.TheVariants.{File, Directory}
use Rattle.ele_model.specs.Step.{step}
use Rattle.ele_model.specs.WellFormed.{IsWellFormed}
use Rattle.ele_model.specs.World.{World, is_file}

-- the row is the same, or it had no death and dies at the moment
abbrev pub IsStillRow : ℕ → NameRow → NameRow → Type 0
IsStillRow now row later = (later ≡ row) ⊎ ((row.death ≡ None) × (later ≡ record row { death = Some now }))

-- each row is the same or dies, and after them are only names that were born at the moment
abbrev pub AreStillRows : ℕ → List NameRow → List NameRow → Type 0
AreStillRows now [] more = AllByRecursion (λ row. (row.birth ≡ now) × (row.death ≡ None)) more
AreStillRows now (row ∷ rows) [] = ⊥
AreStillRows now (row ∷ rows) (later ∷ more) = IsStillRow now row later × AreStillRows now rows more

abbrev pub is_there : List FileRow → Target → Bool
is_there files (File file) = list_any (is_file file) files
is_there files (Directory directory) = true

abbrev pub NameRowsStay : Type 0
NameRowsStay =
    (w : World) (event : Event) → IsWellFormed w
    → let after = (step w event).1 in AreStillRows w.now (filter (λ row. is_there after.files row.target) w.names) after.names
