-- What a call by its number asks for.
use Rattle.std.specs.Prelude.{◌≡◌, ℕ, ◌-◌, nat_lt, List, [], ◌∷◌, slice_get, Option, Some, None, Result, Err, if◌then◌else◌}
use Rattle.ele_c_values.specs.Asks.{Asks, AsksAt, AsksBytes, AsksClock, AsksEnd, AsksMark, AsksMember, AsksName, AsksPath, AsksPaths, AsksPolicy, AsksTagged, AsksThen, AsksVersion}
use Rattle.ele_c_values.specs.declared.call.Call.{Call}
use Rattle.ele_c_values.specs.declared.call.Call.TheVariants as call
use Rattle.ele_model.specs.declared.event.Event.{Event}
use Rattle.ele_model.specs.declared.event.Event.TheVariants as event
use Rattle.ele_model.specs.declared.event.Source.{Source}
use Rattle.ele_model.specs.declared.event.Source.TheVariants.{Of, Tagged}
use Rattle.ele_printer.specs.declared.fault.LineFault.{LineFault}
use Rattle.ele_printer.specs.declared.fault.LineFault.TheVariants.{Syntax}

-- the calls in the order of their numbers, from 0 on
abbrev pub early : List Call
early =
    call.Clock ∷ call.Tick ∷ call.MakeDir ∷ call.RemoveDir ∷ call.Create ∷ call.Link
    ∷ call.Unlink ∷ call.Rename ∷ call.Undelete ∷ call.OpenWrite ∷ call.OpenRead ∷ []

abbrev pub middle : List Call
middle =
    call.Write ∷ call.Truncate ∷ call.Close ∷ call.Revert ∷ call.SetPolicy ∷ call.SetDefault
    ∷ call.GroupMake ∷ call.GroupDrop ∷ call.GroupAdd ∷ call.GroupRemove ∷ call.Mark ∷ []

abbrev pub late : List Call
late =
    call.Unmark ∷ call.CleanOne ∷ call.Read ∷ call.ReadHandle ∷ call.Stat ∷ call.Versions
    ∷ call.ListNames ∷ call.Restorable ∷ call.Due ∷ call.UsageAll ∷ call.GroupsAll ∷ call.Save
    ∷ call.Abandon ∷ call.Restore ∷ call.Note ∷ []

abbrev pub call_at : ℕ → Option Call
call_at number =
    if nat_lt number 11 then slice_get early number
    else (if nat_lt number 22 then slice_get middle (number - 11) else slice_get late (number - 22))

-- the event that a call asks for: with two texts, the kind of a tag, and two numbers, of which each call uses its own
abbrev pub AsksCall : Call → List ℕ → List ℕ → ℕ → ℕ → ℕ → Result Event LineFault → Type 0
AsksCall call.Clock first second tag number other asked = AsksClock number asked
AsksCall call.Tick first second tag number other asked = Asks (event.Tick number) asked
AsksCall call.MakeDir first second tag number other asked = AsksPath event.MakeDir first asked
AsksCall call.RemoveDir first second tag number other asked = AsksPath event.RemoveDir first asked
AsksCall call.Create first second tag number other asked = AsksPath event.Create first asked
AsksCall call.Link first second tag number other asked = AsksPaths event.Link first second asked
AsksCall call.Unlink first second tag number other asked = AsksPath event.Unlink first asked
AsksCall call.Rename first second tag number other asked = AsksPaths event.Rename first second asked
AsksCall call.Undelete first second tag number other asked = AsksPath event.Undelete first asked
AsksCall call.OpenWrite first second tag number other asked = AsksPath event.OpenWrite first asked
AsksCall call.OpenRead first second tag number other asked = AsksTagged event.OpenRead first tag number asked
AsksCall call.Write first second tag number other asked = AsksBytes (event.Write number other) first asked
AsksCall call.Truncate first second tag number other asked = Asks (event.Truncate number other) asked
AsksCall call.Close first second tag number other asked = Asks (event.Close number) asked
AsksCall call.Revert first second tag number other asked = AsksPath (λ path. event.Revert path number) first asked
AsksCall call.SetPolicy first second tag number other asked = AsksPolicy event.SetPolicy first second asked
AsksCall call.SetDefault first second tag number other asked = AsksPolicy event.SetDefault first second asked
AsksCall call.GroupMake first second tag number other asked = AsksName event.GroupMake first asked
AsksCall call.GroupDrop first second tag number other asked = AsksName event.GroupDrop first asked
AsksCall call.GroupAdd first second tag number other asked = AsksMember event.GroupAdd first second asked
AsksCall call.GroupRemove first second tag number other asked = AsksMember event.GroupRemove first second asked
AsksCall call.Mark first second tag number other asked = AsksEnd event.Mark first number other asked
AsksCall call.Unmark first second tag number other asked = AsksMark event.Unmark first number asked
AsksCall call.CleanOne first second tag number other asked = Asks event.CleanOne asked
AsksCall call.Read first second tag number other asked = AsksTagged (λ tagged. event.Read (Tagged tagged)) first tag number asked
AsksCall call.ReadHandle first second tag number other asked = Asks (event.Read (Of number)) asked
AsksCall call.Stat first second tag number other asked = AsksTagged event.Stat first tag number asked
AsksCall call.Versions first second tag number other asked = AsksAt event.Versions first tag number asked
AsksCall call.ListNames first second tag number other asked = AsksAt event.List first tag number asked
AsksCall call.Restorable first second tag number other asked = Asks event.Restorable asked
AsksCall call.Due first second tag number other asked = Asks event.Due asked
AsksCall call.UsageAll first second tag number other asked = Asks event.UsageAll asked
AsksCall call.GroupsAll first second tag number other asked = Asks event.GroupsAll asked
AsksCall call.Save first second tag number other asked = AsksPath (λ path. event.Save path second) first asked
AsksCall call.Abandon first second tag number other asked = Asks (event.Abandon number) asked
AsksCall call.Restore first second tag number other asked = AsksThen event.Restore first number asked
AsksCall call.Note first second tag number other asked = AsksBytes event.Note first asked

-- a number that no call has is Syntax
abbrev pub AsksNumbered : Option Call → List ℕ → List ℕ → ℕ → ℕ → ℕ → Result Event LineFault → Type 0
AsksNumbered None first second tag number other asked = asked ≡ Err Syntax
AsksNumbered (Some call) first second tag number other asked = AsksCall call first second tag number other asked
