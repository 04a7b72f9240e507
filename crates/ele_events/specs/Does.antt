-- What a call does: the same as its event.
use Rattle.std.specs.Prelude.{◌≡◌, ℕ, Bool, true, false, Option, Some, None, Result, Ok, Err}
use Rattle.ele_events.specs.declared.halt.Halt.{Halt}
use Rattle.ele_events.specs.declared.halt.Halt.TheVariants as halt
use Rattle.ele_events.specs.declared.question.Stat.{Stat}
use Rattle.ele_events.specs.declared.question.Stat.TheVariants as stat
use Rattle.ele_due.specs.declared.key.Key.{Key}
use Rattle.ele_model.specs.declared.event.Event.{Event}
use Rattle.ele_model.specs.declared.refusal.Refusal.{Refusal}
use Rattle.ele_model.specs.declared.reply.Reply.{Reply}
use Rattle.ele_model.specs.declared.reply.Reply.TheVariants.{Done, Nothing, Version, Removed, FileStat, DirStat, Refused}
use Rattle.ele_model.specs.Step.{step}
use Rattle.ele_model.specs.World.{World}

abbrev pub is_refused : Reply → Bool
is_refused (Refused refusal) = true
is_refused reply = false

-- the step refuses the event
abbrev pub refuses : World → Event → Bool
refuses w event = is_refused ((step w event).0)

module _ {X : Type 0} where
  -- a value is the reply, and so is a refusal; if memory is refused, the world stays, and the step doesn't refuse the event
  abbrev pub Does : (X → Reply) → World → Event → Result X Halt → World → Type 0
  Does told before event (Ok x) after = (told x, after) ≡ step before event
  Does told before event (Err (halt.Refused refusal)) after = (Refused refusal, after) ≡ step before event
  Does told before event (Err halt.NoMemory) after = (after ≡ before) × (refuses before event ≡ false)

  -- the same for a part of a call, which gives this answer
  abbrev pub Gives : (X → Reply) → World → Reply × World → Result X Halt → World → Type 0
  Gives told before answer (Ok x) after = (told x, after) ≡ answer
  Gives told before answer (Err (halt.Refused refusal)) after = (Refused refusal, after) ≡ answer
  Gives told before answer (Err halt.NoMemory) after = (after ≡ before) × (is_refused answer.0 ≡ false)

  -- the same for a call that takes no memory
  abbrev pub DoesAtOnce : (X → Reply) → World → Event → Result X Refusal → World → Type 0
  DoesAtOnce told before event (Ok x) after = (told x, after) ≡ step before event
  DoesAtOnce told before event (Err refusal) after = (Refused refusal, after) ≡ step before event

  -- the reply that holds no value
  abbrev pub done : X → Reply
  done x = Done

-- a name was restored, and a version was made if the file had no name
abbrev pub revived : Option ℕ → Reply
revived None = Done
revived (Some number) = Version number

-- the version that was removed, if any was due
abbrev pub removed : Option Key → Reply
removed None = Nothing
removed (Some key) = Removed key

-- a version of a file, or a directory
abbrev pub stat_told : Stat → Reply
stat_told (stat.File found) = FileStat found
stat_told (stat.Directory row) = DirStat row
