-- How many version rows an event reads.
use Rattle.std.specs.Prelude.{◌≡◌, ℕ, ◌≤◌}
use Rattle.ele_due.specs.declared.key.Key.{Key}
use Rattle.ele_model.specs.declared.event.Event.{Event}
use Rattle.ele_model.specs.declared.event.Event.TheVariants.{CleanOne, UsageAll}
use Rattle.ele_model.specs.declared.reply.Reply.{Reply}
use Rattle.ele_model.specs.declared.reply.Reply.TheVariants.{Removed}

-- a clean reads at most three, and at least one if it removes a version
pub record CleanReads (reply : Reply) (read : ℕ) : Type 0 where
  pub most : read ≤ 3
  pub least : (key : Key) → reply ≡ Removed key → 1 ≤ read

-- a question for usage reads none; for the other events nothing is said
abbrev pub IsRead : Event → Reply → ℕ → Type 0
IsRead CleanOne reply read = CleanReads reply read
IsRead UsageAll reply read = read ≡ 0
IsRead event reply read = Unit {0}
