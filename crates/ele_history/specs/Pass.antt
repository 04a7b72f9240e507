-- Passes: clean events in a row, each of which is an entry.
use Rattle.std.specs.Prelude.{◌≡◌, ℕ, zero, suc, ◌<◌, Result, Ok, Err}
use Rattle.ele_due.specs.declared.key.Key.{Key}
use Rattle.ele_model.specs.declared.event.Event.TheVariants.{CleanOne}
use Rattle.ele_model.specs.declared.pass.PassEnd.{PassEnd}
use Rattle.ele_model.specs.declared.pass.PassEnd.TheVariants.{Finished, Budget, Stopped}
use Rattle.ele_model.specs.declared.refusal.Stop.{Stop}
use Rattle.ele_model.specs.declared.reply.Reply.{Reply}
use Rattle.ele_model.specs.declared.reply.Reply.TheVariants.{Nothing, Removed}
use Rattle.ele_history.specs.Past.{Past}
use Rattle.ele_history.specs.Reply.{MayReply}

-- the reply to a clean event is a removed version
abbrev pub RemovesOne : Past → Past → Type 0
RemovesOne before after = (key : Key) × MayReply before CleanOne (Ok (Removed key)) after

-- so many of them in a row
abbrev pub Removes : Past → ℕ → Past → Type 0
Removes before zero after = after ≡ before
Removes before (suc n) after = (between : Past) × Removes before n between × RemovesOne between after

-- so many of them, fewer than the budget, and the next clean event has this result
abbrev pub EndsBy : Past → ℕ → ℕ → Result Reply Stop → Past → Type 0
EndsBy before budget removed said after =
    (removed < budget) × ((between : Past) × Removes before removed between × MayReply between CleanOne said after)

-- how a pass with a budget may end: nothing is due any more, the budget is used up, or a clean event is stopped
abbrev pub MayPass : Past → ℕ → PassEnd → Past → Type 0
MayPass before budget (Finished removed) after = EndsBy before budget removed (Ok Nothing) after
MayPass before budget (Budget removed) after = (removed ≡ budget) × Removes before removed after
MayPass before budget (Stopped stop removed) after = EndsBy before budget removed (Err stop) after
