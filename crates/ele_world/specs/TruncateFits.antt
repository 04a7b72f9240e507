-- After a truncate the file's draft has the first bytes of its content, as many as the event says, or zeros after them; nothing else has
-- changed.
use Rattle.std.specs.Prelude.{◌≡◌, ℕ}
use Rattle.ele_content.specs.Content.{content_after_truncate}
use Rattle.ele_model.specs.declared.event.Event.TheVariants.{Truncate}
use Rattle.ele_model.specs.declared.reply.Reply.TheVariants.{Done}
use Rattle.ele_model.specs.Step.{step}
use Rattle.ele_model.specs.WellFormed.{IsWellFormed}
use Rattle.ele_model.specs.World.{World}
use Rattle.ele_world.specs.WriteLays.{ChangesDraft}

abbrev pub TruncateFits : Type 0
TruncateFits =
    (w : World) (handle size : ℕ) → IsWellFormed w → (step w (Truncate handle size)).0 ≡ Done
    → ChangesDraft w handle (λ content. content_after_truncate content size) ((step w (Truncate handle size)).1)
