-- What keeps a world, as the state that it keeps.
use Rattle.ele_keeper.specs.declared.keeper.Keeper.{Keeper}
use Rattle.ele_keeper.specs.declared.keeper.Keeper.TheVariants as keeper
use Rattle.ele_keeper.specs.declared.journaled.JournaledKeeper.{JournaledKeeper}
use Rattle.ele_journaled.specs.JournalState.{JournalState, is_unchanged}
use Rattle.ele_model.specs.declared.event.Event.TheVariants.{CleanOne}
use Rattle.ele_model.specs.declared.refusal.Stop.{Stop}
use Rattle.ele_model.specs.declared.reply.Reply.{Reply}
use Rattle.ele_model.specs.declared.reply.Reply.TheVariants.{Removed}
use Rattle.ele_runs.specs.Kept.{Kept, Plain, Recorded, Journaled, FindsNothing, RemovesOne, Stays, StopsEvent}
use Rattle.ele_runs.specs.declared.said.Said.{Said}
use Rattle.ele_runs.specs.declared.said.Said.TheVariants.{Replied}
use Rattle.std.specs.Prelude.{Bool, true, false, not, Option, Some, None, Result, Ok, Err}

abbrev pub state_of : Keeper → Kept
state_of (keeper.Plain core last) = Plain core.world last
state_of (keeper.Recorded past) = Recorded past

-- with its journal, if there is one
abbrev pub with_journal : Kept → Option JournalState → Kept
with_journal kept None = kept
with_journal kept (Some journal) = Journaled kept journal

abbrev pub journaled_state : JournaledKeeper → Kept
journaled_state it = with_journal (state_of it.bare) it.journal

-- an event that is no question was answered, and neither refused nor found nothing due
abbrev pub has_changed : Said → Option Reply → Bool
has_changed Replied (Some reply) = not (is_unchanged reply)
has_changed said last = false

-- the reply has a removed version
abbrev pub is_removed : Option Reply → Bool
is_removed (Some (Removed key)) = true
is_removed last = false

-- one clean event of a pass: it removed a version, nothing was due, or it was stopped
abbrev pub MayClean : Kept → Result Bool Stop → Kept → Type 0
MayClean before (Ok true) after = RemovesOne before after
MayClean before (Ok false) after = FindsNothing before after
MayClean before (Err stop) after = StopsEvent before CleanOne stop × Stays before after
