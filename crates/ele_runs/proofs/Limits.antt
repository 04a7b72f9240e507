-- Events leave the limits of a world.
use Rattle.ele_runs.proofs.Basics.{◌≡◌, Bool, true, false, List, [], ◌∷◌, Some, None, Ok, Err, refl, ◌∙◌}
use Rattle.std.specs.Prelude.{if◌then◌else◌}
use Rattle.ele_model.specs.Change.{Change, DropIdle, after_change, after_changes, is_idle, without_file}
use Rattle.ele_model.specs.Plan.{Plan, Tell, Make, Unless, When, Need, IfFound, outcome}
use Rattle.ele_model.specs.Run.{run_of}
use Rattle.ele_model.specs.Step.{plan, step}
use Rattle.ele_model.specs.World.{World}
use Rattle.ele_model.specs.declared.event.Event.{Event}

either : (test : Bool) (w u v : World) → u.limits ≡ w.limits → v.limits ≡ w.limits → (if test then u else v).limits ≡ w.limits
either true w u v a b = a
either false w u v a b = b

after_one : (w : World) (change : Change) → (after_change w change).limits ≡ w.limits
after_one w (DropIdle file) = either (is_idle w file) w (without_file w file) w refl refl
after_one w change = refl

after_all : (w : World) (changes : List Change) → (after_changes w changes).limits ≡ w.limits
after_all w [] = refl
after_all w (change ∷ changes) = after_all (after_change w change) changes ∙ after_one w change

after_plan : (w : World) (does : Plan) → ((outcome w does).1).limits ≡ w.limits
after_plan w (Tell reply) = refl
after_plan w (Make reply changes) = after_all w changes
after_plan w (Unless true refusal next) = refl
after_plan w (Unless false refusal next) = after_plan w next
after_plan w (When true passing otherwise) = after_plan w passing
after_plan w (When false passing otherwise) = after_plan w otherwise
after_plan w (Need (Err refusal) next) = refl
after_plan w (Need (Ok x) next) = after_plan w (next x)
after_plan w (IfFound None otherwise next) = after_plan w otherwise
after_plan w (IfFound (Some x) otherwise next) = after_plan w (next x)

pub limits_stay : (w : World) (events : List Event) → (run_of w events).limits ≡ w.limits
limits_stay w [] = refl
limits_stay w (event ∷ events) = limits_stay ((step w event).1) events ∙ after_plan w (plan w event)
