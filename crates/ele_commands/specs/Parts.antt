-- An event as its command and its values.
use Rattle.std.specs.Prelude.{List, [], ◌∷◌}
use Rattle.ele_model.specs.declared.event.Event.{Event}
use Rattle.ele_model.specs.declared.event.Event.TheVariants as event
use Rattle.ele_commands.specs.declared.command.Command.{Command}
use Rattle.ele_commands.specs.declared.command.Command.TheVariants as command
use Rattle.ele_commands.specs.Value.{Value, end_values, Number, Handle, Version, Moment, Name, Path, Tagged, Timed, Source, Bytes, Policy}

-- the command of an event, and the values of the words after it
abbrev pub parts_of : Event → Command × List Value
parts_of (event.Clock moment) = (command.Clock, Moment moment ∷ [])
parts_of (event.Tick seconds) = (command.Tick, Number seconds ∷ [])
parts_of (event.MakeDir path) = (command.MakeDir, Path path ∷ [])
parts_of (event.RemoveDir path) = (command.RemoveDir, Path path ∷ [])
parts_of (event.Create path) = (command.Create, Path path ∷ [])
parts_of (event.Link from to) = (command.Link, Path from ∷ Path to ∷ [])
parts_of (event.Unlink path) = (command.Unlink, Path path ∷ [])
parts_of (event.Rename from to) = (command.Rename, Path from ∷ Path to ∷ [])
parts_of (event.Undelete path) = (command.Undelete, Path path ∷ [])
parts_of (event.OpenWrite path) = (command.OpenWrite, Path path ∷ [])
parts_of (event.OpenRead tagged) = (command.OpenRead, Tagged tagged ∷ [])
parts_of (event.Write handle offset bytes) = (command.Write, Handle handle ∷ Number offset ∷ Bytes bytes ∷ [])
parts_of (event.Truncate handle size) = (command.Truncate, Handle handle ∷ Number size ∷ [])
parts_of (event.Close handle) = (command.Close, Handle handle ∷ [])
parts_of (event.Abandon handle) = (command.Abandon, Handle handle ∷ [])
parts_of (event.Save path bytes) = (command.Save, Path path ∷ Bytes bytes ∷ [])
parts_of (event.Revert path number) = (command.Revert, Path path ∷ Version number ∷ [])
parts_of (event.Restore path moment) = (command.Restore, Path path ∷ Moment moment ∷ [])
parts_of (event.SetPolicy path policy) = (command.SetPolicy, Path path ∷ Policy policy ∷ [])
parts_of (event.SetDefault path policy) = (command.Default, Path path ∷ Policy policy ∷ [])
parts_of (event.GroupMake name) = (command.GroupMake, Name name ∷ [])
parts_of (event.GroupDrop name) = (command.GroupDrop, Name name ∷ [])
parts_of (event.GroupAdd name path) = (command.GroupAdd, Name name ∷ Path path ∷ [])
parts_of (event.GroupRemove name path) = (command.GroupRemove, Name name ∷ Path path ∷ [])
parts_of (event.Mark name moment until) = (command.Mark, Name name ∷ Moment moment ∷ end_values until)
parts_of (event.Unmark name moment) = (command.Unmark, Name name ∷ Moment moment ∷ [])
parts_of event.CleanOne = (command.Clean, [])
parts_of (event.Note bytes) = (command.Note, Bytes bytes ∷ [])
parts_of (event.Read source) = (command.Read, Source source ∷ [])
parts_of (event.Stat tagged) = (command.Stat, Tagged tagged ∷ [])
parts_of (event.Versions timed) = (command.Versions, Timed timed ∷ [])
parts_of (event.List timed) = (command.ListNames, Timed timed ∷ [])
parts_of event.Restorable = (command.Restorable, [])
parts_of event.Due = (command.Due, [])
parts_of event.UsageAll = (command.Usage, [])
parts_of event.GroupsAll = (command.Groups, [])
