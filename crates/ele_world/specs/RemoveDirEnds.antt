-- After a rmdir its path leads nowhere.
use Rattle.std.specs.Prelude.{◌≡◌, ℕ, List, Err}
use Rattle.ele_model.specs.declared.event.Event.TheVariants.{RemoveDir}
use Rattle.ele_model.specs.declared.refusal.Refusal.TheVariants.{NoEntry}
use Rattle.ele_model.specs.declared.reply.Reply.TheVariants.{Done}
use Rattle.ele_model.specs.Step.{step}
use Rattle.ele_model.specs.Walk.{walk_now}
use Rattle.ele_model.specs.WellFormed.{IsWellFormed}
use Rattle.ele_model.specs.World.{World}

abbrev pub RemoveDirEnds : Type 0
RemoveDirEnds =
    (w : World) (path : List (List ℕ)) → IsWellFormed w → (step w (RemoveDir path)).0 ≡ Done
    → walk_now ((step w (RemoveDir path)).1).names path ≡ Err NoEntry
