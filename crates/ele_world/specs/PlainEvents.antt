-- The events for which it doesn't matter when due versions are cleaned.
use Rattle.std.specs.Prelude.{Bool, true, false}
use Rattle.ele_model.specs.declared.event.Event.{Event}
use Rattle.ele_model.specs.declared.event.Event.TheVariants.{Undelete, Revert, Restore, OpenRead, SetPolicy, GroupMake, GroupDrop, GroupAdd, GroupRemove, Mark, Unmark, CleanOne}

abbrev pub is_clean : Event → Bool
is_clean CleanOne = true
is_clean event = false

-- the event is no clean, uses no past version, and can't protect a due version
abbrev pub is_plain : Event → Bool
is_plain CleanOne = false
is_plain (Undelete path) = false
is_plain (Revert path number) = false
is_plain (Restore path moment) = false
is_plain (OpenRead tagged) = false
is_plain (SetPolicy path policy) = false
is_plain (GroupMake name) = false
is_plain (GroupDrop name) = false
is_plain (GroupAdd name path) = false
is_plain (GroupRemove name path) = false
is_plain (Mark name mark until) = false
is_plain (Unmark name mark) = false
is_plain event = true
