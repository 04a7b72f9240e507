-- After an unlink its path leads nowhere, and a file without another name has no current version any more: it has ended.
use Rattle.std.specs.Prelude.{◌≡◌, ℕ, List, true, false, Some, Ok, Err}
use Rattle.std.specs.Option.{option_map}
use Rattle.ele_model.specs.declared.event.Event.TheVariants.{Unlink}
use Rattle.ele_model.specs.declared.refusal.Refusal.TheVariants.{NoEntry}
use Rattle.ele_model.specs.declared.reply.Reply.TheVariants.{Done}
use Rattle.ele_model.specs.Step.{step}
use Rattle.ele_model.specs.Walk.{walk_now, file_now}
use Rattle.ele_model.specs.WellFormed.{IsWellFormed}
use Rattle.ele_model.specs.World.{World, is_live, current_of}

pub record EndsName (before : World) (path : List (List ℕ)) (after : World) : Type 0 where
  pub file : ℕ
  pub was : file_now before.names path ≡ Ok file
  pub gone : walk_now after.names path ≡ Err NoEntry
  pub ended : is_live after file ≡ false → option_map (λ row. row.ended) (current_of after file) ≡ Some (Some before.now)
  pub stays : is_live after file ≡ true → after.versions ≡ before.versions

abbrev pub UnlinkEnds : Type 0
UnlinkEnds =
    (w : World) (path : List (List ℕ)) → IsWellFormed w → (step w (Unlink path)).0 ≡ Done → EndsName w path ((step w (Unlink path)).1)
