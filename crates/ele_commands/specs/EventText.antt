-- The text of events.
use Rattle.std.specs.Prelude.{ℕ, ◌<◌, ◌≤◌, ◌^◌, List, [], ◌∷◌, ◌++◌, map, codes, All}
use Rattle.std.specs.Fmt.{decimal}
use Rattle.std.specs.List.{join_with_byte}
use Rattle.ele_moment.specs.Last.{last_moment}
use Rattle.ele_moment.specs.Name.{IsName}
use Rattle.ele_policy.specs.Policy.{IsPolicy}
use Rattle.ele_policy.specs.PolicyText.{policy_word}
use Rattle.ele_path.specs.Path.{IsPath}
use Rattle.ele_path.specs.PathAt.{tag_at}
use Rattle.ele_path.specs.PathText.{path_word, tagged_word}
use Rattle.ele_path.specs.declared.tagged.Tag.{Tag}
use Rattle.ele_path.specs.declared.tagged.Tag.TheVariants.{Now, At, Number as Numbered}
use Rattle.ele_model.specs.declared.event.Event.{Event}
use Rattle.ele_model.specs.declared.event.Source.{Source as AnySource}
use Rattle.ele_model.specs.declared.event.Source.TheVariants as source
use Rattle.hex.specs.Hex.{encode_lower}
use Rattle.ele_commands.specs.Command.{command_words}
use Rattle.ele_commands.specs.Parts.{parts_of}
use Rattle.ele_commands.specs.Value.{Value, Number, Handle, Version, Moment, End, Name, Path, Tagged, Timed, Source, Bytes, Policy}

-- the word of a path with a tag, or of a handle
abbrev pub source_word : AnySource → List ℕ
source_word (source.Tagged tagged) = tagged_word tagged.path tagged.tag
source_word (source.Of handle) = decimal handle

-- bytes as a word: `-` for none, otherwise two hexadecimal digits each, in lower case
abbrev pub bytes_word : List ℕ → List ℕ
bytes_word [] = codes "-"
bytes_word (byte ∷ bytes) = encode_lower (byte ∷ bytes)

-- the word of a value: numbers and moments in decimal digits, bytes in hexadecimal ones
abbrev pub value_word : Value → List ℕ
value_word (Number n) = decimal n
value_word (Handle n) = decimal n
value_word (Version n) = decimal n
value_word (Moment m) = decimal m
value_word (End m) = decimal m
value_word (Name name) = name
value_word (Path names) = path_word names
value_word (Tagged tagged) = tagged_word tagged.path tagged.tag
value_word (Timed timed) = tagged_word timed.path (tag_at timed.moment)
value_word (Source source) = source_word source
value_word (Bytes bytes) = bytes_word bytes
value_word (Policy policy) = policy_word policy

-- the words of an event: those of its command, and one for each value
abbrev pub event_words : Event → List (List ℕ)
event_words event = command_words (parts_of event).0 ++ map value_word (parts_of event).1

-- the text of an event: its words with a space (32) between each two
abbrev pub event_text : Event → List ℕ
event_text event = join_with_byte 32 (event_words event)

-- a tag is valid: its moment or number is in range
abbrev pub IsTag : Tag → Type 0
IsTag Now = Unit {0}
IsTag (At moment) = moment ≤ last_moment
IsTag (Numbered number) = number < 2 ^ 64

-- a path with a tag is valid, or the number of a handle is in range
abbrev pub IsSource : AnySource → Type 0
IsSource (source.Tagged tagged) = IsPath tagged.path × IsTag tagged.tag
IsSource (source.Of handle) = handle < 2 ^ 64

-- a value is valid: its numbers are in range, its names, path or policy are valid
abbrev pub IsValue : Value → Type 0
IsValue (Number n) = n < 2 ^ 64
IsValue (Handle n) = n < 2 ^ 64
IsValue (Version n) = n < 2 ^ 64
IsValue (Moment m) = m ≤ last_moment
IsValue (End m) = m ≤ last_moment
IsValue (Name name) = IsName name
IsValue (Path names) = IsPath names
IsValue (Tagged tagged) = IsPath tagged.path × IsTag tagged.tag
IsValue (Timed timed) = IsPath timed.path × IsTag (tag_at timed.moment)
IsValue (Source source) = IsSource source
IsValue (Bytes bytes) = All (λ byte. byte < 256) bytes
IsValue (Policy policy) = IsPolicy policy
