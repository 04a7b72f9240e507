-- After a rename the new path leads where the old one led, the old one leads nowhere, and no version has changed.
use Rattle.std.specs.Prelude.{◌≡◌, ℕ, List, Err}
use Rattle.ele_model.specs.declared.event.Event.TheVariants.{Rename}
use Rattle.ele_model.specs.declared.refusal.Refusal.TheVariants.{NoEntry}
use Rattle.ele_model.specs.declared.reply.Reply.TheVariants.{Done}
use Rattle.ele_model.specs.Step.{step}
use Rattle.ele_model.specs.Walk.{walk_now}
use Rattle.ele_model.specs.WellFormed.{IsWellFormed}
use Rattle.ele_model.specs.World.{World}

pub record LeadsInstead (before : World) (from to : List (List ℕ)) (after : World) : Type 0 where
  pub leads : walk_now after.names to ≡ walk_now before.names from
  pub gone : walk_now after.names from ≡ Err NoEntry
  pub versions : after.versions ≡ before.versions

abbrev pub RenameLeads : Type 0
RenameLeads =
    (w : World) (from to : List (List ℕ)) → IsWellFormed w → (step w (Rename from to)).0 ≡ Done
    → LeadsInstead w from to ((step w (Rename from to)).1)
