-- An undelete makes a version only of a file without a live name and without a draft, and that is the file's next one.
use Rattle.std.specs.Prelude.{◌≡◌, ℕ, false, List, Some, Ok}
use Rattle.ele_model.specs.declared.event.Event.TheVariants.{Undelete}
use Rattle.ele_model.specs.declared.reply.Reply.TheVariants.{Version}
use Rattle.ele_model.specs.declared.rows.Target.TheVariants.{File}
use Rattle.ele_model.specs.NameRows.{last_dead}
use Rattle.ele_model.specs.Step.{step}
use Rattle.ele_model.specs.Walk.{parent_now}
use Rattle.ele_model.specs.World.{World, has_draft, is_live, next_of}

pub record RevivesFile (before : World) (path : List (List ℕ)) (number : ℕ) : Type 0 where
  pub home : ℕ × List ℕ
  pub file : ℕ
  pub stands : parent_now before.names path ≡ Ok home
  pub lost : last_dead before.names home.0 home.1 ≡ Some (File file)
  pub nameless : is_live before file ≡ false
  pub undrafted : has_draft before file ≡ false
  pub numbered : number ≡ next_of before.files file

abbrev pub UndeleteRevives : Type 0
UndeleteRevives = (w : World) (path : List (List ℕ)) (number : ℕ) → (step w (Undelete path)).0 ≡ Version number → RevivesFile w path number
