-- One clean event of a pass. No public clause cites this module.
use Rattle.std.specs.Prelude.{Bool, true, false, Result, Ok, Err}
use Rattle.ele_model.specs.declared.event.Event.TheVariants.{CleanOne}
use Rattle.ele_model.specs.declared.refusal.Stop.{Stop}
use Rattle.ele_model.specs.declared.reply.Reply.{Reply}
use Rattle.ele_model.specs.declared.reply.Reply.TheVariants.{Nothing, Removed}
use Rattle.ele_history.specs.Pass.{RemovesOne}
use Rattle.ele_history.specs.Past.{Past}
use Rattle.ele_history.specs.Reply.{MayReply}

-- the reply has a removed version
abbrev pub is_removed : Reply → Bool
is_removed (Removed key) = true
is_removed _ = false

-- the event removed a version, nothing was due, or it was stopped
abbrev pub MayClean : Past → Result Bool Stop → Past → Type 0
MayClean before (Ok true) after = RemovesOne before after
MayClean before (Ok false) after = MayReply before CleanOne (Ok Nothing) after
MayClean before (Err stop) after = MayReply before CleanOne (Err stop) after
