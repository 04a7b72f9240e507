-- What is removed doesn't depend on the time of cleaning. Take a run with any clean events. A finished pass at its end leaves what the scan
-- keeps of the run without them. The events that neither clean nor ask get the same replies.
use Rattle.std.specs.Prelude.{◌≡◌, ℕ, true, not, ◌||◌, List, [], ◌∷◌, filter, if◌then◌else◌}
use Rattle.std.specs.List.{AllByRecursion}
use Rattle.ele_model.specs.declared.event.Event.{Event}
use Rattle.ele_model.specs.declared.reply.Reply.{Reply}
use Rattle.ele_model.specs.Due.{kept_rows}
use Rattle.ele_model.specs.NothingChanges.{asks}
use Rattle.ele_model.specs.Pass.{IsPass}
use Rattle.ele_world.specs.PlainEvents.{is_clean, is_plain}
use Rattle.ele_model.specs.Run.{run_of, IsEvent}
use Rattle.ele_model.specs.Step.{step}
use Rattle.ele_model.specs.WellFormed.{IsWellFormed}
use Rattle.ele_model.specs.World.{World}

-- the replies to the events that neither clean nor ask
abbrev pub change_replies : World → List Event → List Reply
change_replies w [] = []
change_replies w (event ∷ events) =
    let rest = change_replies ((step w event).1) events in if is_clean event || asks event then rest else (step w event).0 ∷ rest

-- from any well-formed world without groups, as the fresh one is
abbrev pub Schedule : Type 0
Schedule =
    (w : World) (events : List Event) → IsWellFormed w → w.groups ≡ []
    → AllByRecursion (λ event. IsEvent event × ((is_clean event || is_plain event) ≡ true)) events
    → let others = filter (λ event. not (is_clean event)) events in
    (change_replies w events ≡ change_replies w others)
    × ((removed : ℕ) (after : World) → IsPass (run_of w events) removed after → after.versions ≡ kept_rows (run_of w others))
