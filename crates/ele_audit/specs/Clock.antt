-- The clock by the replies alone. No public clause cites this module.
use Rattle.std.specs.Prelude.{ℕ}
use Rattle.ele_model.specs.declared.reply.Reply.{Reply}
use Rattle.ele_model.specs.declared.reply.Reply.TheVariants.{Now}

-- the moment after an event, from its reply and the moment before
abbrev pub clock_after : Reply → ℕ → ℕ
clock_after (Now to) now = to
clock_after reply now = now
