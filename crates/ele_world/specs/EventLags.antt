-- An event happens in a world and in one that lags behind it: it still lags, and both give the same reply unless the event only asks.
use Rattle.std.specs.Prelude.{◌≡◌, true, false}
use Rattle.ele_model.specs.declared.event.Event.{Event}
use Rattle.ele_world.specs.Lags.{Lags}
use Rattle.ele_model.specs.NothingChanges.{asks}
use Rattle.ele_world.specs.PlainEvents.{is_plain}
use Rattle.ele_model.specs.Run.{IsEvent}
use Rattle.ele_model.specs.Step.{step}
use Rattle.ele_model.specs.WellFormed.{IsWellFormed}
use Rattle.ele_model.specs.World.{World}

pub record LagsAfter (u v : World) (event : Event) : Type 0 where
  pub lags : Lags ((step u event).1) ((step v event).1)
  pub reply : asks event ≡ false → (step u event).0 ≡ (step v event).0

abbrev pub EventLags : Type 0
EventLags =
    (u v : World) (event : Event) → IsEvent event → is_plain event ≡ true → IsWellFormed u → IsWellFormed v → Lags u v
    → LagsAfter u v event
