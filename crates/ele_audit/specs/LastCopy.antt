-- A copy of a world's rows that goes on with the world, as far as replies say what changed.
use Rattle.std.specs.Prelude.{◌≡◌, [], ◌∷◌, Bool, true, Option, Some, None, IfSome, if◌then◌else◌}
use Rattle.ele_model.specs.Change.{DropIdle, Take, Time, after_change, after_changes}
use Rattle.ele_model.specs.ReadersStay.{needs_memory}
use Rattle.ele_model.specs.World.{World}
use Rattle.ele_model.specs.declared.reply.Reply.{Reply}
use Rattle.ele_model.specs.declared.reply.Reply.TheVariants.{Nothing, Now, Refused, Removed}

-- the reply is one after which nothing has changed: nothing was due, a refusal, or what was asked
abbrev pub leaves : Reply → Bool
leaves Nothing = true
leaves (Refused refusal) = true
leaves reply = needs_memory reply

-- the world after an event with that reply, if the reply says what it is
abbrev pub world_after : Reply → World → Option World
world_after (Now to) w = Some (after_change w (Time to))
world_after (Removed key) w = Some (after_changes w (Take key.file key.number ∷ DropIdle key.file ∷ []))
world_after reply w = if leaves reply then Some w else None

-- the rows are those of the world, if there are any
abbrev pub IsCopy : World → Option World → Type 0
IsCopy w copy = IfSome copy (λ rows. rows ≡ w)
