-- What the arguments of a call ask for.
use Rattle.std.specs.Prelude.{◌≡◌, ◌≢◌, ◌⊎◌, ℕ, ◌==◌, nat_le, Bool, true, false, List, [], Option, Some, None, Result, Ok, Err, if◌then◌else◌}
use Rattle.ele_c_values.specs.Codes.{never}
use Rattle.ele_model.specs.declared.event.Event.{Event}
use Rattle.ele_model.specs.declared.event.Event.TheVariants.{Clock}
use Rattle.ele_model.specs.declared.event.Source.{Source}
use Rattle.ele_model.specs.declared.event.Source.TheVariants.{Of, Tagged}
use Rattle.ele_moment.specs.Last.{last_moment}
use Rattle.ele_moment.specs.Name.{IsName}
use Rattle.ele_path.specs.Path.{SpellsPath}
use Rattle.ele_path.specs.declared.path_at.PathAt.{PathAt}
use Rattle.ele_path.specs.declared.tagged.Tag.{Tag}
use Rattle.ele_path.specs.declared.tagged.Tag.TheVariants.{Now, At, Number}
use Rattle.ele_path.specs.declared.tagged.TaggedPath.{TaggedPath}
use Rattle.ele_path.specs.FirstFault.{path_fault}
use Rattle.ele_policy.specs.declared.policy.Policy.{Policy}
use Rattle.ele_printer.specs.LineFault.{fault_of_path}
use Rattle.ele_printer.specs.declared.fault.LineFault.{LineFault}
use Rattle.ele_printer.specs.declared.fault.LineFault.TheVariants.{NoMemory, BadName, BadMoment, Syntax}
use Rattle.std.specs.Option.{option_map}
use Rattle.ele_script.specs.PathWord.{begins_path}
use Rattle.ele_script.specs.PolicyWord.{ReadsPolicy}

-- the value, or a fault; memory may stop the reading only if it takes memory
abbrev pub Finds : {X : Type 0} → (X → Type 0) → (LineFault → Type 0) → Type 0 → Result X LineFault → Type 0
Finds is bad takes (Ok x) = is x
Finds is bad takes (Err fault) = ((fault ≡ NoMemory) × takes) ⊎ bad fault

-- bytes that begin with a slash may be a path, whose names take memory; all others are refused without memory
abbrev pub TakesPath : List ℕ → Type 0
TakesPath bytes = begins_path bytes ≡ true

-- a number that is no moment
abbrev pub moment_of : ℕ → Result ℕ LineFault
moment_of seconds = if nat_le seconds last_moment then Ok seconds else Err BadMoment

-- a number that is one
abbrev pub IsMoment : ℕ → Type 0
IsMoment seconds = (moment : ℕ) × (moment_of seconds ≡ Ok moment)

-- the end of a mark
abbrev pub end_of : ℕ → Result (Option ℕ) LineFault
end_of seconds = if seconds == never then Ok None else (if nat_le seconds last_moment then Ok (Some seconds) else Err BadMoment)

abbrev pub IsEnd : ℕ → Type 0
IsEnd until = (end : Option ℕ) × (end_of until ≡ Ok end)

-- a tag by its kind and its number
abbrev pub tag_of : ℕ → ℕ → Result Tag LineFault
tag_of kind number =
    if kind == 0 then Ok Now
    else (if kind == 1 then (if nat_le number last_moment then Ok (At number) else Err BadMoment)
    else (if kind == 2 then Ok (Number number) else Err Syntax))

-- the same, without a version's number
abbrev pub time_of : ℕ → ℕ → Result (Option ℕ) LineFault
time_of kind number =
    if kind == 0 then Ok None
    else (if kind == 1 then (if nat_le number last_moment then Ok (Some number) else Err BadMoment) else Err Syntax)

-- why bytes are no path
abbrev pub IsPathFault : List ℕ → LineFault → Type 0
IsPathFault bytes fault = option_map fault_of_path (path_fault bytes) ≡ Some fault

-- bytes that spell a path
abbrev pub IsPathText : List ℕ → Type 0
IsPathText bytes = (path : List (List ℕ)) × SpellsPath bytes path

-- why they are no name
abbrev pub IsNameFault : List ℕ → LineFault → Type 0
IsNameFault bytes fault = (fault ≡ BadName) × ¬ IsName bytes

-- a path
abbrev pub AsksPath : (List (List ℕ) → Event) → List ℕ → Result Event LineFault → Type 0
AsksPath event bytes =
    Finds (λ asked. (path : List (List ℕ)) × SpellsPath bytes path × (asked ≡ event path)) (IsPathFault bytes) (TakesPath bytes)

-- two paths; their fault is that of the first one, if it has one
abbrev pub IsPathsFault : List ℕ → List ℕ → LineFault → Type 0
IsPathsFault from to fault = IsPathFault from fault ⊎ (IsPathText from × IsPathFault to fault)

abbrev pub AsksPaths : (List (List ℕ) → List (List ℕ) → Event) → List ℕ → List ℕ → Result Event LineFault → Type 0
AsksPaths event from to =
    Finds (λ asked. (a b : List (List ℕ)) × SpellsPath from a × SpellsPath to b × (asked ≡ event a b)) (IsPathsFault from to)
    (TakesPath from)

-- a path with a tag; a fault of the path comes first
abbrev pub IsTagged : List ℕ → ℕ → ℕ → TaggedPath → Type 0
IsTagged bytes kind number tagged = SpellsPath bytes tagged.path × (tag_of kind number ≡ Ok tagged.tag)

abbrev pub IsTaggedFault : List ℕ → ℕ → ℕ → LineFault → Type 0
IsTaggedFault bytes kind number fault = IsPathFault bytes fault ⊎ (IsPathText bytes × (tag_of kind number ≡ Err fault))

abbrev pub AsksTagged : (TaggedPath → Event) → List ℕ → ℕ → ℕ → Result Event LineFault → Type 0
AsksTagged event bytes kind number =
    Finds (λ asked. (tagged : TaggedPath) × IsTagged bytes kind number tagged × (asked ≡ event tagged)) (IsTaggedFault bytes kind number)
    (TakesPath bytes)

-- a path with a tag means the version to read
abbrev pub AsksVersion : List ℕ → ℕ → ℕ → Result Source LineFault → Type 0
AsksVersion bytes kind number =
    Finds (λ source. (tagged : TaggedPath) × IsTagged bytes kind number tagged × (source ≡ Tagged tagged)) (IsTaggedFault bytes kind number)
    (TakesPath bytes)

-- what a read copies: what a handle reads, or a version
abbrev pub AsksSource : Bool → List ℕ → ℕ → ℕ → Result Source LineFault → Type 0
AsksSource true bytes kind number source = source ≡ Ok (Of number)
AsksSource false bytes kind number source = AsksVersion bytes kind number source

-- a path at a moment; a fault of the path comes first
abbrev pub IsTimedFault : List ℕ → ℕ → ℕ → LineFault → Type 0
IsTimedFault bytes kind number fault = IsPathFault bytes fault ⊎ (IsPathText bytes × (time_of kind number ≡ Err fault))

abbrev pub AsksAt : (PathAt → Event) → List ℕ → ℕ → ℕ → Result Event LineFault → Type 0
AsksAt event bytes kind number =
    Finds (λ asked. (at : PathAt) × SpellsPath bytes at.path × (time_of kind number ≡ Ok at.moment) × (asked ≡ event at))
    (IsTimedFault bytes kind number) (TakesPath bytes)

-- a path, and a moment; a fault of the path comes first
abbrev pub IsThenFault : List ℕ → ℕ → LineFault → Type 0
IsThenFault bytes moment fault = IsPathFault bytes fault ⊎ (IsPathText bytes × (moment_of moment ≡ Err fault))

abbrev pub AsksThen : (List (List ℕ) → ℕ → Event) → List ℕ → ℕ → Result Event LineFault → Type 0
AsksThen event bytes moment =
    Finds (λ asked. (path : List (List ℕ)) × SpellsPath bytes path × (moment_of moment ≡ Ok moment) × (asked ≡ event path moment))
    (IsThenFault bytes moment) (TakesPath bytes)

-- a path, and a policy's word; a fault of the path comes first
abbrev pub IsPolicyFault : List ℕ → List ℕ → LineFault → Type 0
IsPolicyFault bytes word fault = IsPathFault bytes fault ⊎ (IsPathText bytes × ReadsPolicy word (Err fault))

abbrev pub AsksPolicy : (List (List ℕ) → Policy → Event) → List ℕ → List ℕ → Result Event LineFault → Type 0
AsksPolicy event bytes word =
    Finds (λ asked. (path : List (List ℕ)) × (policy : Policy) × SpellsPath bytes path × ReadsPolicy word (Ok policy) × (asked ≡ event path policy))
    (IsPolicyFault bytes word) (TakesPath bytes)

-- the name of a group, which takes memory only if it is one
abbrev pub AsksName : (List ℕ → Event) → List ℕ → Result Event LineFault → Type 0
AsksName event group = Finds (λ asked. IsName group × (asked ≡ event group)) (IsNameFault group) (IsName group)

-- the name of a group, and a path; a fault of the name comes first
abbrev pub IsMemberFault : List ℕ → List ℕ → LineFault → Type 0
IsMemberFault group bytes fault = IsNameFault group fault ⊎ (IsName group × IsPathFault bytes fault)

abbrev pub AsksMember : (List ℕ → List (List ℕ) → Event) → List ℕ → List ℕ → Result Event LineFault → Type 0
AsksMember event group bytes =
    Finds (λ asked. (path : List (List ℕ)) × IsName group × SpellsPath bytes path × (asked ≡ event group path))
    (IsMemberFault group bytes) (IsName group × TakesPath bytes)

-- the name of a group, and the moment of a mark; a fault of the name comes first, and only good arguments take memory
abbrev pub IsMarkFault : List ℕ → ℕ → LineFault → Type 0
IsMarkFault group moment fault = IsNameFault group fault ⊎ (IsName group × (moment_of moment ≡ Err fault))

abbrev pub AsksMark : (List ℕ → ℕ → Event) → List ℕ → ℕ → Result Event LineFault → Type 0
AsksMark event group moment =
    Finds (λ asked. IsName group × (moment_of moment ≡ Ok moment) × (asked ≡ event group moment))
    (IsMarkFault group moment) (IsName group × IsMoment moment)

-- the same, with the end of the mark, whose fault comes last
abbrev pub IsEndFault : List ℕ → ℕ → ℕ → LineFault → Type 0
IsEndFault group moment until fault =
    IsMarkFault group moment fault ⊎ (IsName group × (moment_of moment ≡ Ok moment) × (end_of until ≡ Err fault))

abbrev pub AsksEnd : (List ℕ → ℕ → Option ℕ → Event) → List ℕ → ℕ → ℕ → Result Event LineFault → Type 0
AsksEnd event group moment until =
    Finds (λ asked. (end : Option ℕ) × IsName group × (moment_of moment ≡ Ok moment) × (end_of until ≡ Ok end) × (asked ≡ event group moment end))
    (IsEndFault group moment until) (IsName group × IsMoment moment × IsEnd until)

-- numbers alone: the event itself, which takes no memory to be asked for
abbrev pub Asks : Event → Result Event LineFault → Type 0
Asks event asked = asked ≡ Ok event

-- the moment to which the clock is set
abbrev pub AsksClock : ℕ → Result Event LineFault → Type 0
AsksClock moment (Ok asked) = (moment_of moment ≡ Ok moment) × (asked ≡ Clock moment)
AsksClock moment (Err fault) = moment_of moment ≡ Err fault

-- a copy of bytes, which takes memory unless there are none
abbrev pub CopiesBytes : List ℕ → Result (List ℕ) LineFault → Type 0
CopiesBytes bytes (Ok copy) = copy ≡ bytes
CopiesBytes bytes (Err fault) = (fault ≡ NoMemory) × (bytes ≢ [])

-- an event with a copy of bytes
abbrev pub AsksBytes : (List ℕ → Event) → List ℕ → Result Event LineFault → Type 0
AsksBytes event bytes (Ok asked) = asked ≡ event bytes
AsksBytes event bytes (Err fault) = (fault ≡ NoMemory) × (bytes ≢ [])
