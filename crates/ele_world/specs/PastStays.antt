-- What a name meant at a moment before now stays after any event, unless it was a file that was dropped with all its names.
use Rattle.std.specs.Prelude.{◌≡◌, ◌⊎◌, ℕ, ◌<◌, true, false, List, Some, None, find}
use Rattle.ele_model.specs.declared.event.Event.{Event}
use Rattle.ele_model.specs.declared.rows.Target.TheVariants.{File}
use Rattle.ele_model.specs.Change.{is_idle}
use Rattle.ele_model.specs.NameRows.{target_at}
use Rattle.ele_model.specs.Step.{step}
use Rattle.ele_model.specs.WellFormed.{IsWellFormed}
use Rattle.ele_model.specs.World.{World, is_file, is_live}

-- the name meant a file that had no live name; the event dropped the file, and the name means nothing any more
pub record WentWithFile (before after : World) (moment directory : ℕ) (name : List ℕ) : Type 0 where
  pub file : ℕ
  pub stood : target_at before.names moment directory name ≡ Some (File file)
  pub nameless : is_live before file ≡ false
  pub idle : is_idle after file ≡ true
  pub gone : find (is_file file) after.files ≡ None
  pub nothing : target_at after.names moment directory name ≡ None

abbrev pub StoodAsBefore : World → World → ℕ → ℕ → List ℕ → Type 0
StoodAsBefore before after moment directory name =
    (target_at after.names moment directory name ≡ target_at before.names moment directory name) ⊎ WentWithFile before after moment directory name

abbrev pub PastStays : Type 0
PastStays =
    (w : World) (event : Event) (moment directory : ℕ) (name : List ℕ) → IsWellFormed w → moment < w.now
    → StoodAsBefore w ((step w event).1) moment directory name
