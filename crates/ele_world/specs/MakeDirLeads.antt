-- After a mkdir its path leads to the new directory.
use Rattle.std.specs.Prelude.{◌≡◌, ℕ, List, true, false, Ok}
use Rattle.std.specs.List.{list_any}
use Rattle.ele_model.specs.declared.event.Event.TheVariants.{MakeDir}
use Rattle.ele_model.specs.declared.reply.Reply.TheVariants.{Directory}
use Rattle.ele_model.specs.NameRows.{is_live_in}
use Rattle.ele_model.specs.Step.{step}
use Rattle.ele_model.specs.Walk.{directory_now, parent_now}
use Rattle.ele_model.specs.WellFormed.{has_directory, IsWellFormed}
use Rattle.ele_model.specs.World.{World, default_of}

-- the directory is there, the path leads to it, it has no name in it, and its policy is the default policy of its parent
pub record LeadsToDirectory (before : World) (path : List (List ℕ)) (id : ℕ) (after : World) : Type 0 where
  pub home : ℕ × List ℕ
  pub stands : parent_now before.names path ≡ Ok home
  pub there : has_directory after.directories id ≡ true
  pub named : directory_now after.names path ≡ Ok id
  pub empty : list_any (is_live_in id) after.names ≡ false
  pub policy : default_of after.directories id ≡ default_of before.directories home.0

abbrev pub MakeDirLeads : Type 0
MakeDirLeads =
    (w : World) (path : List (List ℕ)) (id : ℕ) → IsWellFormed w → (step w (MakeDir path)).0 ≡ Directory id
    → LeadsToDirectory w path id ((step w (MakeDir path)).1)
