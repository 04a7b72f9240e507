-- The words of a line, as they are printed.
use Rattle.std.specs.Prelude.{ℕ, ◌<◌, ◌≤◌, ◌^◌, List, All}
use Rattle.std.specs.Fmt.{decimal}
use Rattle.ele_moment.specs.Last.{last_moment}
use Rattle.ele_moment.specs.Name.{IsName}
use Rattle.ele_path.specs.Path.{IsPath}
use Rattle.ele_path.specs.PathAt.{tag_at}
use Rattle.ele_path.specs.PathText.{path_word, tagged_word}
use Rattle.ele_policy.specs.Policy.{IsPolicy}
use Rattle.ele_policy.specs.PolicyText.{policy_word}
use Rattle.ele_commands.specs.EventText.{IsSource, IsTag, bytes_word, source_word}
use Rattle.ele_commands.specs.declared.word.Word.{Word}
use Rattle.ele_commands.specs.declared.word.Word.TheVariants.{Plain, Number, Moment, Name, Path, Tagged, Timed, Source, Bytes, Policy}

-- the bytes of a word
abbrev pub word_text : Word → List ℕ
word_text (Plain bytes) = bytes.now
word_text (Number n) = decimal n
word_text (Moment m) = decimal m
word_text (Name name) = name.now
word_text (Path names) = path_word names.now
word_text (Tagged tagged) = tagged_word tagged.now.path tagged.now.tag
word_text (Timed timed) = tagged_word timed.now.path (tag_at timed.now.moment)
word_text (Source source) = source_word source.now
word_text (Bytes bytes) = bytes_word bytes.now
word_text (Policy policy) = policy_word policy.now

-- a word is valid: its numbers are in range, its name, path or policy is valid
abbrev pub IsWord : Word → Type 0
IsWord (Plain bytes) = Unit {0}
IsWord (Number n) = n < 2 ^ 64
IsWord (Moment m) = m ≤ last_moment
IsWord (Name name) = IsName name.now
IsWord (Path names) = IsPath names.now
IsWord (Tagged tagged) = IsPath tagged.now.path × IsTag tagged.now.tag
IsWord (Timed timed) = IsPath timed.now.path × IsTag (tag_at timed.now.moment)
IsWord (Source source) = IsSource source.now
IsWord (Bytes bytes) = All (λ byte. byte < 256) bytes.now
IsWord (Policy policy) = IsPolicy policy.now
