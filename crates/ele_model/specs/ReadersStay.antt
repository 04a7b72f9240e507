-- An event whose reply takes memory to copy changes nothing.
use Rattle.std.specs.Prelude.{◌≡◌, Bool, true, false}
use Rattle.ele_model.specs.declared.event.Event.{Event}
use Rattle.ele_model.specs.declared.reply.Reply.{Reply}
use Rattle.ele_model.specs.declared.reply.Reply.TheVariants.{Bytes, FileStat, DirStat, Rows, NameList, RestoreList, DueList, UsageList, GroupList}
use Rattle.ele_model.specs.Step.{step}
use Rattle.ele_model.specs.World.{World}

-- the reply holds a list or a boxed value, and a copy of it takes memory
abbrev pub needs_memory : Reply → Bool
needs_memory (Bytes bytes) = true
needs_memory (FileStat stat) = true
needs_memory (DirStat row) = true
needs_memory (Rows rows) = true
needs_memory (NameList names) = true
needs_memory (RestoreList names) = true
needs_memory (DueList keys) = true
needs_memory (UsageList usages) = true
needs_memory (GroupList groups) = true
needs_memory reply = false

abbrev pub ReadersStay : Type 0
ReadersStay = (w : World) (event : Event) → needs_memory ((step w event).0) ≡ true → (step w event).1 ≡ w
