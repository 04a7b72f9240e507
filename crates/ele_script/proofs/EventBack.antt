-- The text of an event spells it.
use Rattle.ele_script.proofs.Basics.{◌≡◌, ℕ, ◌^◌, ◌<◌, ◌≤◌, true, List, [], ◌∷◌, ◌++◌, length, map, refl, sym, subst, ◌∙◌, arith, length-append, inl, inr, decimal, list_all}
use Rattle.ele_script.proofs.Prelude.{Command, command_words, SpellsNumber, SpellsMoment, SpellsValue, SpellsValues, SpellsWords, SpellsBytes, Value, Moment, Name, Path, Timed, Bytes}
use Rattle.std.specs.Prelude.{All}
use Rattle.std.specs.List.{AllByRecursion}
use Rattle.std.proofs.lemmas.List.Folds.{list_all-append}
use Rattle.hex.proofs.HexLemmas.{decode_of-encode_lower, length-encode_with}
use Rattle.hex.specs.Hex.{lower_digits}
use Rattle.ele_moment.specs.Last.{last_moment}
use Rattle.ele_path.specs.Path.{IsPath, SpellsPath}
use Rattle.ele_path.specs.PathAt.{tag_at}
use Rattle.ele_path.specs.Tagged.{SpellsTag, SpellsTaggedPath}
use Rattle.ele_path.specs.declared.tagged.Tag.{Tag}
use Rattle.ele_path.specs.declared.tagged.Tag.TheVariants.{Now, At, Number as Numbered}
use Rattle.ele_model.specs.declared.event.Source.TheVariants as source
use Rattle.ele_commands.specs.EventText.{IsTag, IsValue, event_words, value_word}
use Rattle.ele_path.specs.PathText.{path_word, tag_text, tagged_word}
use Rattle.ele_commands.specs.Parts.{parts_of}
use Rattle.ele_commands.specs.EventText.{bytes_word}
use Rattle.ele_script.specs.declared.reading.Line.TheVariants as asks
use Rattle.ele_script.specs.EventBack.{EventBack}
use Rattle.ele_script.specs.Value.{Number, Handle, Version, End, Tagged, Source, Policy}
use Rattle.ele_script.proofs.JoinedWords.{joined_words, joined_worded}
use Rattle.ele_script.proofs.PlainValues.{are_bytes, values_are}
use Rattle.ele_script.proofs.PlainWords.{is_word}
use Rattle.ele_script.proofs.PolicyBack.{policy_back, spelled}
use Rattle.ele_commands.proofs.Words.{some_word}

moment_back : (m : ℕ) → m ≤ last_moment → SpellsMoment (decimal m) m
moment_back m le = record { in_range = le; form = inl (spelled m le) }

number_back : (n : ℕ) → n < 2 ^ 64 → SpellsNumber (decimal n) n
number_back n fits = record { fits = fits; digits = refl }

path_back : (names : List (List ℕ)) → IsPath names → SpellsPath (path_word names) names
path_back [] is = record { is = is; form = inl (refl, refl) }
path_back (name ∷ names) is = record { is = is; form = inr (omega arith, refl) }

tag_back : (tag : Tag) → IsTag tag → SpellsTag (tag_text tag) tag
tag_back Now is = tt
tag_back (At moment) is = (refl, moment_back moment is)
tag_back (Numbered number) is = (refl, number_back number is)

tagged_back : (names : List (List ℕ)) (tag : Tag) → IsPath names → IsTag tag → SpellsTaggedPath (tagged_word names tag) (record { path = names; tag = tag })
tagged_back names tag is of_tag =
    record { path_text = path_word names; tag_text = tag_text tag; are = refl; path = path_back names is; tag = tag_back tag of_tag }

bytes_back : (bytes : List ℕ) → All (λ byte. byte < 256) bytes → SpellsBytes (bytes_word bytes) bytes
bytes_back [] all = inl (refl, refl)
bytes_back (byte ∷ bytes) all =
    inr (omega (arith, length-encode_with lower_digits (byte ∷ bytes)), decode_of-encode_lower (byte ∷ bytes) (are_bytes (byte ∷ bytes) all))

-- the word of a value spells it
value_back : (value : Value) → IsValue value → SpellsValue (value_word value) value
value_back (Number n) is = number_back n is
value_back (Handle n) is = number_back n is
value_back (Version n) is = number_back n is
value_back (Moment m) is = moment_back m is
value_back (End m) is = moment_back m is
value_back (Name name) is = (refl, is)
value_back (Path names) is = path_back names is
value_back (Tagged tagged) is = tagged_back tagged.path tagged.tag is.0 is.1
value_back (Timed timed) is = tagged_back timed.path (tag_at timed.moment) is.0 is.1
value_back (Source (source.Tagged tagged)) is = tagged_back tagged.path tagged.tag is.0 is.1
value_back (Source (source.Of handle)) is = number_back handle is
value_back (Bytes bytes) is = bytes_back bytes is
value_back (Policy policy) is = policy_back policy is

values_back : (values : List Value) → AllByRecursion IsValue values → SpellsValues (map value_word values) values
values_back [] are = tt
values_back (value ∷ values) are = (value_back value are.0, values_back values are.1)

name_words : (command : Command) → list_all is_word (command_words command) ≡ true
name_words command = grind arith

pub event_back : EventBack
event_back event are =
    let name = command_words (parts_of event).0 in
    let values = map value_word (parts_of event).1 in
    let some : 0 < length (name ++ values) = omega (arith, some_word (parts_of event).0, length-append name values) in
    let plain : list_all is_word (name ++ values) ≡ true = list_all-append is_word name values ∙ rw (name_words (parts_of event).0, values_are (parts_of event).1 are) refl in
    let words : SpellsWords (event_words event) (asks.Event event) = record { arguments = values; are = refl; values = values_back (parts_of event).1 are } in
    record {
      worded = joined_worded (name ++ values) some plain;
      words = subst (λ words. SpellsWords words (asks.Event event)) (sym (joined_words (name ++ values) some plain)) words;
    }
