-- After a create its path leads to the new file, whose current version is empty.
use Rattle.std.specs.Prelude.{◌≡◌, ℕ, List, [], Some, Ok}
use Rattle.std.specs.Option.{option_map}
use Rattle.ele_model.specs.declared.event.Event.TheVariants.{Create}
use Rattle.ele_model.specs.declared.reply.Reply.TheVariants.{File}
use Rattle.ele_model.specs.Step.{step}
use Rattle.ele_model.specs.Walk.{file_now}
use Rattle.ele_model.specs.WellFormed.{IsWellFormed}
use Rattle.ele_model.specs.World.{World, current_of}

pub record LeadsToNew (path : List (List ℕ)) (file : ℕ) (after : World) : Type 0 where
  pub named : file_now after.names path ≡ Ok file
  pub empty : option_map (λ row. row.cells) (current_of after file) ≡ Some []

abbrev pub CreateLeads : Type 0
CreateLeads =
    (w : World) (path : List (List ℕ)) (file : ℕ) → IsWellFormed w → (step w (Create path)).0 ≡ File file
    → LeadsToNew path file ((step w (Create path)).1)
