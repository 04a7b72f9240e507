-- The list of restorable names has a name exactly if an undelete of a path to it isn't refused as `Exists`, `NoEntry` or `NotRestorable`.
use Rattle.std.specs.Prelude.{◌≡◌, ℕ, Bool, true, false, not, List, Ok}
use Rattle.std.specs.List.{list_any}
use Rattle.ele_headline.specs.RestorableLists.{is_dead_name}
use Rattle.ele_model.specs.declared.event.Event.TheVariants.{Undelete}
use Rattle.ele_model.specs.declared.refusal.Refusal.TheVariants.{Exists, NoEntry, NotRestorable}
use Rattle.ele_model.specs.declared.reply.Reply.{Reply}
use Rattle.ele_model.specs.declared.reply.Reply.TheVariants.{Refused}
use Rattle.ele_model.specs.Restorable.{restorable}
use Rattle.ele_model.specs.Step.{step}
use Rattle.ele_model.specs.Walk.{parent_now}
use Rattle.ele_model.specs.WellFormed.{IsWellFormed}
use Rattle.ele_model.specs.World.{World}

-- the refusal is that the name is taken, or that its last target may have no name again
abbrev pub cannot_return : Reply → Bool
cannot_return (Refused Exists) = true
cannot_return (Refused NoEntry) = true
cannot_return (Refused NotRestorable) = true
cannot_return reply = false

abbrev pub UndeleteTakes : Type 0
UndeleteTakes =
    (w : World) (path : List (List ℕ)) (at : ℕ × List ℕ) → IsWellFormed w → parent_now w.names path ≡ Ok at
    → list_any (is_dead_name at.0 at.1) (restorable w) ≡ not (cannot_return ((step w (Undelete path)).0))
