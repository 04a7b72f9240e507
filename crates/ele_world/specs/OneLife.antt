-- A file had one version at each moment at which it had a name. A read at the moment finds that version while it is held, and is
-- `Forgotten` once it was removed.
use Rattle.std.specs.Prelude.{◌≡◌, ℕ, true, false, List, Option, Some, Ok, Err}
use Rattle.std.specs.List.{AllByRecursion}
use Rattle.ele_model.specs.declared.event.Event.{Event}
use Rattle.ele_model.specs.declared.refusal.Refusal.TheVariants.{Forgotten}
use Rattle.ele_model.specs.declared.rows.NameRow.{NameRow}
use Rattle.ele_model.specs.declared.rows.Target.TheVariants.{File}
use Rattle.ele_model.specs.declared.rows.VersionRow.{VersionRow}
use Rattle.ele_model.specs.Bounds.{Bounds, AreBounds}
use Rattle.ele_world.specs.Ever.{last_stood}
use Rattle.ele_model.specs.NameRows.{covers}
use Rattle.ele_model.specs.Run.{run_of, IsEvent}
use Rattle.ele_model.specs.Tagged.{lives_at, version_living}
use Rattle.ele_model.specs.World.{World, fresh_world, is_held}

-- of all versions of the file that ever closed in the run, this one lived at the moment, and no other
pub record HasOneLife (first : World) (events : List Event) (file moment : ℕ) : Type 0 where
  pub row : VersionRow
  pub stood : last_stood first events file row.number ≡ Some row
  pub lived : lives_at moment row ≡ true
  pub only : (number : ℕ) (other : VersionRow) → last_stood first events file number ≡ Some other → lives_at moment other ≡ true → number ≡ row.number
  pub held : is_held (run_of first events) file row.number ≡ true → version_living (run_of first events).versions file moment ≡ Ok row
  pub gone : is_held (run_of first events) file row.number ≡ false
      → (before : Option ℕ) × (version_living (run_of first events).versions file moment ≡ Err (Forgotten before))

-- at each moment that the name covers, if it is a file's
abbrev pub NamesOneLife : World → List Event → NameRow → Type 0
NamesOneLife first events name = (file moment : ℕ) → name.target ≡ File file → covers moment name ≡ true → HasOneLife first events file moment

abbrev pub OneLife : Type 0
OneLife =
    (limits : Bounds) (events : List Event) → AreBounds limits → AllByRecursion IsEvent events
    → AllByRecursion (NamesOneLife (fresh_world limits) events) (run_of (fresh_world limits) events).names
