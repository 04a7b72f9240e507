-- The versions that ever closed in a run, held or removed since.
use Rattle.std.specs.Prelude.{ℕ, List, [], ◌∷◌, Option, find}
use Rattle.std.specs.Option.{option_or}
use Rattle.ele_model.specs.declared.event.Event.{Event}
use Rattle.ele_model.specs.declared.rows.VersionRow.{VersionRow}
use Rattle.ele_model.specs.Step.{step}
use Rattle.ele_model.specs.World.{World, is_version}

-- the file's version with that number as it last was in a world of the run, if one held it
abbrev pub last_stood : World → List Event → (file number : ℕ) → Option VersionRow
last_stood w [] file number = find (is_version file number) w.versions
last_stood w (event ∷ events) file number =
    option_or (last_stood ((step w event).1) events file number) (find (is_version file number) w.versions)
