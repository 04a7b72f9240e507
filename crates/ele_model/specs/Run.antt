-- Runs.
use Rattle.std.specs.Prelude.{◌≤◌, List, [], ◌∷◌}
use Rattle.ele_moment.specs.Last.{last_moment}
use Rattle.ele_model.specs.declared.event.Event.{Event}
use Rattle.ele_model.specs.declared.event.Event.TheVariants.{Clock, SetPolicy, SetDefault}
use Rattle.ele_model.specs.Step.{step}
use Rattle.ele_policy.specs.Policy.{IsPolicy}
use Rattle.ele_model.specs.World.{World}

-- the world after the answered events; an event that was stopped leaves the world as it was, so it is in no run
abbrev pub run_of : World → List Event → World
run_of w [] = w
run_of w (event ∷ events) = run_of ((step w event).1) events

-- what the types of an event say of its values
abbrev pub IsEvent : Event → Type 0
IsEvent (Clock to) = to ≤ last_moment
IsEvent (SetPolicy path policy) = IsPolicy policy
IsEvent (SetDefault path policy) = IsPolicy policy
IsEvent event = Unit {0}
