-- What a path reads at a moment before now never becomes something else. After any event it reads the same bytes, or is refused: as
-- `Forgotten` once the version was removed, or as `NoEntry` once the file was dropped.
use Rattle.std.specs.Prelude.{◌≡◌, ◌⊎◌, ℕ, ◌<◌, List, Option}
use Rattle.ele_path.specs.declared.tagged.Tag.TheVariants.{At}
use Rattle.ele_model.specs.declared.event.Event.{Event}
use Rattle.ele_model.specs.declared.event.Event.TheVariants.{Read}
use Rattle.ele_model.specs.declared.event.Source.TheVariants.{Tagged}
use Rattle.ele_model.specs.declared.refusal.Refusal.TheVariants.{Forgotten, NoEntry}
use Rattle.ele_model.specs.declared.reply.Reply.{Reply}
use Rattle.ele_model.specs.declared.reply.Reply.TheVariants.{Bytes, Refused}
use Rattle.ele_model.specs.Run.{IsEvent}
use Rattle.ele_model.specs.Step.{step}
use Rattle.ele_model.specs.WellFormed.{IsWellFormed}
use Rattle.ele_model.specs.World.{World}

-- the reply to a read of the path at the moment
abbrev pub read_at : World → List (List ℕ) → ℕ → Reply
read_at w path moment = (step w (Read (Tagged (record { path = path; tag = At moment })))).0

abbrev pub ReadsPast : Type 0
ReadsPast =
    (w : World) (event : Event) (path : List (List ℕ)) (moment : ℕ) (bytes : List ℕ) → IsWellFormed w → IsEvent event → moment < w.now
    → read_at w path moment ≡ Bytes bytes
    → let after = read_at ((step w event).1) path moment in
    (after ≡ Bytes bytes) ⊎ (((before : Option ℕ) × (after ≡ Refused (Forgotten before))) ⊎ (after ≡ Refused NoEntry))
