-- The headline in a run: events led to the world before each line, and so each reply to an event is as the headline says.
use Rattle.std.specs.Prelude.{◌≡◌, ℕ, Bool, List, Some}
use Rattle.ele_headline.specs.Headline.{KeepsHeadline}
use Rattle.ele_history.specs.Past.{Past, fresh, world_of}
use Rattle.ele_model.specs.Bounds.{Bounds, AreBounds}
use Rattle.ele_model.specs.declared.event.Event.{Event}
use Rattle.ele_model.specs.declared.reply.Reply.{Reply}
use Rattle.ele_model.specs.Reached.{IsReachedFrom}
use Rattle.ele_model.specs.Start.{IsStart}
use Rattle.ele_model.specs.World.{World}
use Rattle.ele_script.specs.Spells.{Asks}
use Rattle.ele_script.specs.declared.reading.Line.TheVariants as asks
use Rattle.ele_runs.specs.Kept.{Recorded, last_reply}
use Rattle.ele_runs.specs.Said.{MayAnswer}
use Rattle.ele_runs.specs.declared.said.Said.TheVariants.{Replied}
use Rattle.ele_runs.specs.RunState.{RunState}
use Rattle.ele_runs.specs.Told.{AreTold}

pub record RepliesKeepHeadline : Type 0 where
  -- the fresh world of limits that are allowed is one that a run may begin in
  pub begun : (limits : Bounds) → AreBounds limits → IsStart (world_of (fresh limits))
  -- whatever lines are answered, and wherever the run began, events led from there to the world after them
  pub told : (start : World) (before after : RunState) (lines : List (List ℕ)) (text : List ℕ) → IsReachedFrom start (world_of before.past)
      → AreTold before lines text after → IsReachedFrom start (world_of after.past)
  -- an answer that is a reply is that of the last entry to the event of its line, and keeps the headline
  pub reply : (explains : Bool) (before after : Past) (line : List ℕ) → MayAnswer explains (Recorded before) (Some line) Replied (Recorded after)
      → (event : Event) × (reply : Reply) × Asks explains line (asks.Event event) × (last_reply after ≡ Some reply)
      × KeepsHeadline (world_of before) event reply (world_of after)
