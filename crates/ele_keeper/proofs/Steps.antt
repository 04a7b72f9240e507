-- What a core answers, over a core alone.
use Rattle.std.proofs.Common.{◌≡◌, ℕ, false}
use Rattle.std.specs.Prelude.{◌≢◌}
use Rattle.ele_core.specs.Stopped.{is_stopped}
use Rattle.ele_events.specs.Does.{refuses}
use Rattle.ele_model.specs.Ready.{takes_no_memory}
use Rattle.ele_model.specs.World.{World}
use Rattle.ele_model.specs.declared.event.Event.{Event}
use Rattle.ele_model.specs.declared.pass.PassEnd.{PassEnd}
use Rattle.ele_model.specs.declared.pass.PassEnd.TheVariants.{Stopped}
use Rattle.ele_model.specs.declared.refusal.Stop.{Stop}
use Rattle.ele_runs.specs.Kept.{TakesSome}

-- memory stopped an event that the step doesn't refuse
pub takes_some : (w : World) (event : Event) → takes_no_memory event ≡ false → refuses w event ≡ false → TakesSome w event
takes_some w event takes accepted = record { takes = takes; accepted = λ refusal is. absurd (let never = rw is at accepted in cc) }

-- a pass that wasn't stopped
pub unstopped : (end : PassEnd) → is_stopped end ≡ false → (stop : Stop) (removed : ℕ) → end ≢ Stopped stop removed
unstopped end on stop removed is = absurd (let never = rw is at on in cc)
