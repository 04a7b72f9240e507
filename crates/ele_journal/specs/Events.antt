-- The bytes of an event that may change a world: the number of its kind, and its values.
use Rattle.std.specs.Prelude.{ℕ, Bool, true, false, ◌<◌, ◌^◌, List, [], ◌∷◌, ◌++◌, length}
use Rattle.ele_moment.specs.Name.{IsName}
use Rattle.ele_policy.specs.Policy.{IsPolicy}
use Rattle.ele_path.specs.Path.{IsPath}
use Rattle.ele_path.specs.declared.tagged.Tag.{Tag}
use Rattle.ele_path.specs.declared.tagged.Tag.TheVariants as tags
use Rattle.ele_model.specs.declared.event.Event.{Event}
use Rattle.ele_model.specs.declared.event.Event.TheVariants as events
use Rattle.ele_checkpoint.specs.Fits.{IsNumber, IsMoment, IsMaybe}
use Rattle.ele_checkpoint.specs.Number.{number_text}
use Rattle.ele_checkpoint.specs.Lists.{list_text}
use Rattle.ele_checkpoint.specs.Values.{string_text, maybe_text, policy_text}

-- a path is its names
abbrev pub names_text : List (List ℕ) → List ℕ
names_text names = list_text string_text names

abbrev pub tag_text : Tag → List ℕ
tag_text tags.Now = 0 ∷ []
tag_text (tags.At seconds) = 1 ∷ number_text seconds
tag_text (tags.Number version) = 2 ∷ number_text version

-- an event. A question changes no world and has no bytes
abbrev pub event_text : Event → List ℕ
event_text (events.MakeDir path) = 0 ∷ names_text path
event_text (events.RemoveDir path) = 1 ∷ names_text path
event_text (events.Create path) = 2 ∷ names_text path
event_text (events.Unlink path) = 3 ∷ names_text path
event_text (events.Undelete path) = 4 ∷ names_text path
event_text (events.OpenWrite path) = 5 ∷ names_text path
event_text (events.Link path other) = 6 ∷ (names_text path ++ names_text other)
event_text (events.Rename path other) = 7 ∷ (names_text path ++ names_text other)
event_text (events.Tick seconds) = 8 ∷ number_text seconds
event_text (events.Close handle) = 9 ∷ number_text handle
event_text (events.Abandon handle) = 10 ∷ number_text handle
event_text (events.Clock moment) = 11 ∷ number_text moment
event_text (events.Truncate handle size) = 12 ∷ (number_text handle ++ number_text size)
event_text (events.Write handle offset bytes) = 13 ∷ (number_text handle ++ number_text offset ++ string_text bytes)
event_text (events.Save path bytes) = 14 ∷ (names_text path ++ string_text bytes)
event_text (events.Revert path version) = 15 ∷ (names_text path ++ number_text version)
event_text (events.Restore path moment) = 16 ∷ (names_text path ++ number_text moment)
event_text (events.SetPolicy path policy) = 17 ∷ (names_text path ++ policy_text policy)
event_text (events.SetDefault path policy) = 18 ∷ (names_text path ++ policy_text policy)
event_text (events.OpenRead tagged) = 19 ∷ (names_text tagged.path ++ tag_text tagged.tag)
event_text (events.GroupMake name) = 20 ∷ string_text name
event_text (events.GroupDrop name) = 21 ∷ string_text name
event_text (events.GroupAdd name path) = 22 ∷ (string_text name ++ names_text path)
event_text (events.GroupRemove name path) = 23 ∷ (string_text name ++ names_text path)
event_text (events.Mark name moment until) = 24 ∷ (string_text name ++ number_text moment ++ maybe_text until)
event_text (events.Unmark name moment) = 25 ∷ (string_text name ++ number_text moment)
event_text events.CleanOne = 26 ∷ []
event_text (events.Note bytes) = 27 ∷ string_text bytes
event_text (events.Read source) = []
event_text (events.Stat tagged) = []
event_text (events.Versions path) = []
event_text (events.List path) = []
event_text events.Restorable = []
event_text events.Due = []
event_text events.UsageAll = []
event_text events.GroupsAll = []

-- whether an event may change a world, and so isn't a question
abbrev pub changes : Event → Bool
changes (events.Read source) = false
changes (events.Stat tagged) = false
changes (events.Versions path) = false
changes (events.List path) = false
changes events.Restorable = false
changes events.Due = false
changes events.UsageAll = false
changes events.GroupsAll = false
changes event = true

abbrev pub IsTag : Tag → Type 0
IsTag tags.Now = Unit {0}
IsTag (tags.At seconds) = IsMoment seconds
IsTag (tags.Number version) = IsNumber version

-- not too many bytes
abbrev pub IsText : List ℕ → Type 0
IsText bytes = length bytes < 2 ^ 64

-- an event that may change a world, and what the types already say of its values
abbrev pub IsEvent : Event → Type 0
IsEvent (events.MakeDir path) = IsPath path
IsEvent (events.RemoveDir path) = IsPath path
IsEvent (events.Create path) = IsPath path
IsEvent (events.Unlink path) = IsPath path
IsEvent (events.Undelete path) = IsPath path
IsEvent (events.OpenWrite path) = IsPath path
IsEvent (events.Link path other) = IsPath path × IsPath other
IsEvent (events.Rename path other) = IsPath path × IsPath other
IsEvent (events.Tick seconds) = IsNumber seconds
IsEvent (events.Close handle) = IsNumber handle
IsEvent (events.Abandon handle) = IsNumber handle
IsEvent (events.Clock moment) = IsMoment moment
IsEvent (events.Truncate handle size) = IsNumber handle × IsNumber size
IsEvent (events.Write handle offset bytes) = IsNumber handle × IsNumber offset × IsText bytes
IsEvent (events.Save path bytes) = IsPath path × IsText bytes
IsEvent (events.Revert path version) = IsPath path × IsNumber version
IsEvent (events.Restore path moment) = IsPath path × IsMoment moment
IsEvent (events.SetPolicy path policy) = IsPath path × IsPolicy policy
IsEvent (events.SetDefault path policy) = IsPath path × IsPolicy policy
IsEvent (events.OpenRead tagged) = IsPath tagged.path × IsTag tagged.tag
IsEvent (events.GroupMake name) = IsName name
IsEvent (events.GroupDrop name) = IsName name
IsEvent (events.GroupAdd name path) = IsName name × IsPath path
IsEvent (events.GroupRemove name path) = IsName name × IsPath path
IsEvent (events.Mark name moment until) = IsName name × IsMoment moment × IsMaybe until
IsEvent (events.Unmark name moment) = IsName name × IsMoment moment
IsEvent events.CleanOne = Unit {0}
IsEvent (events.Note bytes) = IsText bytes
IsEvent (events.Read source) = ⊥
IsEvent (events.Stat tagged) = ⊥
IsEvent (events.Versions path) = ⊥
IsEvent (events.List path) = ⊥
IsEvent events.Restorable = ⊥
IsEvent events.Due = ⊥
IsEvent events.UsageAll = ⊥
IsEvent events.GroupsAll = ⊥
