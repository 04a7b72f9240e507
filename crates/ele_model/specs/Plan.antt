-- What an event does: checks in order, then a reply, and changes or none.
use Rattle.std.specs.Prelude.{Bool, List, Option, Result, Ok, Err, if◌then◌else◌}
use Rattle.std.specs.Option.{option_map_or}
use Rattle.ele_model.specs.declared.refusal.Refusal.{Refusal}
use Rattle.ele_model.specs.declared.reply.Reply.{Reply}
use Rattle.ele_model.specs.declared.reply.Reply.TheVariants.{Refused}
use Rattle.ele_model.specs.Change.{Change, after_changes}
use Rattle.ele_model.specs.World.{World}

pub data Plan : Type 1 where
  -- replies, and changes nothing
  Tell : Reply → Plan
  -- replies, and makes these changes in order
  Make : Reply → List Change → Plan
  -- refuses if the test holds, and else follows the plan
  Unless : (test : Bool) → Refusal → Plan → Plan
  -- follows the first plan if the test holds, and else the second
  When : (test : Bool) → Plan → Plan → Plan
  -- refuses as the look-up does, or else follows the plan for its result
  Need : {X : Type 0} → Result X Refusal → (X → Plan) → Plan
  -- follows the first plan if there is no value, and else the plan for the value
  IfFound : {X : Type 0} → Option X → Plan → (X → Plan) → Plan

-- a refusal changes nothing
abbrev pub refused : World → Refusal → Reply × World
refused w refusal = (Refused refusal, w)

abbrev pub found_outcome : {X : Type 0} → World → Result X Refusal → (X → Reply × World) → Reply × World
found_outcome w (Err refusal) go = refused w refusal
found_outcome w (Ok x) go = go x

-- the reply, and the world after it
abbrev pub outcome : World → Plan → Reply × World
outcome w (Tell reply) = (reply, w)
outcome w (Make reply changes) = (reply, after_changes w changes)
outcome w (Unless test refusal next) = if test then refused w refusal else outcome w next
outcome w (When test passing otherwise) = if test then outcome w passing else outcome w otherwise
outcome w (Need found next) = found_outcome w found (λ x. outcome w (next x))
outcome w (IfFound found otherwise next) = option_map_or (λ x. outcome w (next x)) found (outcome w otherwise)
