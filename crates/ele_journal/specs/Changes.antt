-- The bytes of changes, and the chain of checks that ties each change to all before it.
use Rattle.std.specs.Prelude.{◌≡◌, ℕ, ◌<◌, ◌^◌, false, true, List, [], ◌∷◌, ◌++◌, length}
use Rattle.std.specs.Int.{w32, w64, to_be_bytes}
use Rattle.std.specs.List.{AllByRecursion, list_all}
use Rattle.ele_model.specs.declared.event.Event.{Event}
use Rattle.ele_checkpoint.specs.Fits.{AreItems}
use Rattle.ele_checkpoint.specs.Lists.{list_text}
use Rattle.ele_checkpoint.specs.Sum.{sum}
use Rattle.ele_journal.specs.declared.fault.EncodeError.{EncodeError}
use Rattle.ele_journal.specs.declared.fault.EncodeError.TheVariants as errors
use Rattle.ele_journal.specs.Events.{IsEvent, changes, event_text}

-- a check: the CRC-32C of bytes, in four bytes
unfoldable pub check_of : List ℕ → List ℕ
check_of bytes = to_be_bytes w32 (sum bytes)

-- bytes after a check, and then the check of both
abbrev pub linked : List ℕ → List ℕ → List ℕ
linked before bytes = bytes ++ check_of (before ++ bytes)

-- the events of a change: how many, and each
abbrev pub events_text : List Event → List ℕ
events_text events = list_text event_text events

-- the length of that, in eight bytes
abbrev pub size_text : List Event → List ℕ
size_text events = to_be_bytes w64 (length (events_text events))

-- the check of the length, after the check before
abbrev pub size_check : List ℕ → List Event → List ℕ
size_check before events = check_of (before ++ size_text events)

-- the check of a change
abbrev pub after_change : List ℕ → List Event → List ℕ
after_change before events = check_of (size_check before events ++ events_text events)

-- a change after a check: the length with its check, and the events with theirs
abbrev pub change_text : List ℕ → List Event → List ℕ
change_text before events = linked before (size_text events) ++ linked (size_check before events) (events_text events)

-- changes, one after the other
abbrev pub changes_text : List ℕ → List (List Event) → List ℕ
changes_text before [] = []
changes_text before (change ∷ changes) = change_text before change ++ changes_text (after_change before change) changes

-- the check of the last of them
abbrev pub last_check : List ℕ → List (List Event) → List ℕ
last_check before [] = before
last_check before (change ∷ changes) = last_check (after_change before change) changes

-- one event or more, and no question: what can be encoded
pub record IsEncodable (events : List Event) : Type 0 where
  pub some : 0 < length events
  pub changing : list_all changes events ≡ true

-- a change has one event or more, each of which may change a world. The types and the memory say the rest
pub record IsChange (events : List Event) : Type 0 where
  pub some : 0 < length events
  pub are : AreItems IsEvent events
  pub fits : length (events_text events) < 2 ^ 64

abbrev pub AreChanges : List (List Event) → Type 0
AreChanges changes = AllByRecursion IsChange changes

-- why events are no change, unless memory was refused
abbrev pub IsRefused : List Event → EncodeError → Type 0
IsRefused events errors.NoMemory = Unit {0}
IsRefused events errors.Empty = events ≡ []
IsRefused events errors.Question = list_all changes events ≡ false
