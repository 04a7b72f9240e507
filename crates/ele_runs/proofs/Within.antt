-- Histories within the limit of entries.
use Rattle.ele_runs.proofs.Basics.{◌≡◌, ◌+◌, [], ◌∷◌, ap, arith, length-append}
use Rattle.ele_runs.proofs.Limits.{limits_stay}
use Rattle.ele_runs.proofs.Words.{HasRoom, IsFull, Past, count_of, recorded, reply_to, trimmed}
use Rattle.ele_history.specs.Past.{events_of}
use Rattle.ele_model.specs.Bounds.{Bounds}
use Rattle.ele_model.specs.declared.entry.Entry.{Entry}
use Rattle.ele_model.specs.declared.event.Event.{Event}
use Rattle.ele_runs.specs.SomeAnswer.{IsWithin}

-- an event makes one entry
pub one_more : (past : Past) (event : Event) → count_of (recorded past event) ≡ count_of past + 1
one_more past event =
    let entry : Entry = record { event = event; reply = reply_to past event } in
    omega (arith, length-append past.entries (entry ∷ []))

pub recorded_within : (past : Past) (event : Event) → HasRoom past → IsWithin (recorded past event)
recorded_within past event room = omega (arith, room, one_more past event)

pub trimmed_within : (past : Past) → IsWithin past → IsWithin (trimmed past)
trimmed_within past within =
    omega (arith, within, ap (λ (limits : Bounds). limits.events) (limits_stay past.base (events_of past.entries)))

-- if no entry more is within the limit, the limit is reached
pub is_full : (past : Past) → IsWithin past → ¬ HasRoom past → IsFull past
is_full past within full = omega (arith, full, within)
