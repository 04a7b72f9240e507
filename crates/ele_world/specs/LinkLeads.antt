-- After a link both paths lead to the file.
use Rattle.std.specs.Prelude.{◌≡◌, ℕ, List}
use Rattle.ele_model.specs.declared.event.Event.TheVariants.{Link}
use Rattle.ele_model.specs.declared.reply.Reply.TheVariants.{Done}
use Rattle.ele_model.specs.Step.{step}
use Rattle.ele_model.specs.Walk.{file_now}
use Rattle.ele_model.specs.WellFormed.{IsWellFormed}
use Rattle.ele_model.specs.World.{World}

pub record LeadsToSame (before : World) (from to : List (List ℕ)) (after : World) : Type 0 where
  pub leads : file_now after.names to ≡ file_now before.names from
  pub stays : file_now after.names from ≡ file_now before.names from

abbrev pub LinkLeads : Type 0
LinkLeads =
    (w : World) (from to : List (List ℕ)) → IsWellFormed w → (step w (Link from to)).0 ≡ Done
    → LeadsToSame w from to ((step w (Link from to)).1)
