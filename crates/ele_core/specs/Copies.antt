-- What a read copies into a caller's buffer.
use Rattle.std.specs.Prelude.{◌≡◌, ℕ, List, Result, Ok, Err}
use Rattle.ele_files.specs.Copied.{IsCopied}
use Rattle.ele_files.specs.declared.files.reading.Copied.{Copied}
use Rattle.ele_model.specs.Step.{step}
use Rattle.ele_model.specs.World.{World}
use Rattle.ele_model.specs.declared.event.Event.TheVariants.{Read}
use Rattle.ele_model.specs.declared.event.Source.{Source}
use Rattle.ele_model.specs.declared.refusal.Refusal.{Refusal}
use Rattle.ele_model.specs.declared.reply.Reply.TheVariants.{Bytes, Refused}

-- the bytes of the reply to the read of the source were copied from the offset on; or the read is refused, and nothing was written
abbrev pub Copies : World → Source → ℕ → List ℕ → List ℕ → Result Copied Refusal → Type 0
Copies w source offset old new (Ok copied) = (bytes : List ℕ) × IsCopied bytes offset old new copied × ((Bytes bytes, w) ≡ step w (Read source))
Copies w source offset old new (Err refusal) = ((Refused refusal, w) ≡ step w (Read source)) × (new ≡ old)
