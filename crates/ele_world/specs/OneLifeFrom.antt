-- From any well-formed world on, one version of a file lived at each moment at which it had a name. It isn't known which versions were
-- removed before that world. So the law speaks of an earlier moment only if a version that the run held lived then.
use Rattle.std.specs.Prelude.{◌≡◌, ◌≤◌, ℕ, true, List, Some}
use Rattle.std.specs.List.{AllByRecursion}
use Rattle.ele_model.specs.declared.event.Event.{Event}
use Rattle.ele_model.specs.declared.rows.NameRow.{NameRow}
use Rattle.ele_model.specs.declared.rows.Target.TheVariants.{File}
use Rattle.ele_model.specs.declared.rows.VersionRow.{VersionRow}
use Rattle.ele_world.specs.Ever.{last_stood}
use Rattle.ele_model.specs.NameRows.{covers}
use Rattle.ele_world.specs.OneLife.{HasOneLife}
use Rattle.ele_model.specs.Run.{run_of, IsEvent}
use Rattle.ele_model.specs.Tagged.{lives_at}
use Rattle.ele_model.specs.WellFormed.{IsWellFormed}
use Rattle.ele_model.specs.World.{World}

-- at each moment from the first world on that the name covers, if it is a file's
abbrev pub NamesOneLifeFrom : World → List Event → NameRow → Type 0
NamesOneLifeFrom first events name =
    (file moment : ℕ) → name.target ≡ File file → covers moment name ≡ true → first.now ≤ moment → HasOneLife first events file moment

-- at each moment at which a version lived that the run held, and at those that names cover
pub record HasLivesFrom (first : World) (events : List Event) : Type 0 where
  pub stood : (file number moment : ℕ) (row : VersionRow) → last_stood first events file number ≡ Some row → lives_at moment row ≡ true
      → HasOneLife first events file moment
  pub named : AllByRecursion (NamesOneLifeFrom first events) (run_of first events).names

abbrev pub OneLifeFrom : Type 0
OneLifeFrom = (first : World) (events : List Event) → IsWellFormed first → AllByRecursion IsEvent events → HasLivesFrom first events
