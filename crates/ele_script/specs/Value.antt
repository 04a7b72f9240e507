-- What a word of a line may spell.
use Rattle.std.specs.Prelude.{◌≡◌, ℕ, ◌<◌, List, [], length, codes, ◌⊎◌, Ok}
use Rattle.hex.specs.Hex.{decode_of}
use Rattle.ele_moment.specs.Name.{IsName}
use Rattle.ele_moment.specs.Number.{SpellsNumber}
use Rattle.ele_moment.specs.Spelled.{SpellsMoment}
use Rattle.ele_path.specs.Path.{SpellsPath}
use Rattle.ele_path.specs.Tagged.{SpellsTaggedPath}
use Rattle.ele_path.specs.PathAt.{SpellsPathAt}
pub use Rattle.ele_commands.specs.Value.{Value, Number, Handle, Version, Moment, End, Name, Path, Tagged, Timed, Source, Bytes, Policy}
pub use Rattle.ele_commands.specs.declared.kind.WordKind.{WordKind}
pub use Rattle.ele_commands.specs.declared.kind.WordKind.TheVariants.{Number as NumberWord, Handle as HandleWord, Version as VersionWord, Moment as MomentWord, End as EndWord, Name as NameWord, Path as PathWord, Tagged as TaggedWord, Timed as TimedWord, Source as SourceWord, Bytes as BytesWord, Policy as PolicyWord}
use Rattle.ele_model.specs.declared.event.Source.{Source as AnySource}
use Rattle.ele_model.specs.declared.event.Source.TheVariants as source
use Rattle.ele_script.specs.PolicyWord.{ReadsPolicy}

-- the kind of words that spell the value
abbrev pub word_kind : Value → WordKind
word_kind (Number n) = NumberWord
word_kind (Handle n) = HandleWord
word_kind (Version n) = VersionWord
word_kind (Moment m) = MomentWord
word_kind (End m) = EndWord
word_kind (Name name) = NameWord
word_kind (Path names) = PathWord
word_kind (Tagged tagged) = TaggedWord
word_kind (Timed timed) = TimedWord
word_kind (Source source) = SourceWord
word_kind (Bytes bytes) = BytesWord
word_kind (Policy policy) = PolicyWord

-- the word is the name
abbrev pub SpellsName : List ℕ → List ℕ → Type 0
SpellsName word name = (name ≡ word) × IsName word

-- `-` for no bytes, else an even number of hexadecimal digits, each two a byte
abbrev pub SpellsBytes : List ℕ → List ℕ → Type 0
SpellsBytes word bytes = ((word ≡ codes "-") × (bytes ≡ [])) ⊎ ((0 < length word) × (decode_of word ≡ Ok bytes))

-- the word is a path with a tag, or the number of a handle
abbrev pub SpellsSource : List ℕ → AnySource → Type 0
SpellsSource word (source.Tagged tagged) = SpellsTaggedPath word tagged
SpellsSource word (source.Of handle) = SpellsNumber word handle

-- the word spells the value
abbrev pub SpellsValue : List ℕ → Value → Type 0
SpellsValue word (Number n) = SpellsNumber word n
SpellsValue word (Handle n) = SpellsNumber word n
SpellsValue word (Version n) = SpellsNumber word n
SpellsValue word (Moment m) = SpellsMoment word m
SpellsValue word (End m) = SpellsMoment word m
SpellsValue word (Name name) = SpellsName word name
SpellsValue word (Path names) = SpellsPath word names
SpellsValue word (Tagged tagged) = SpellsTaggedPath word tagged
SpellsValue word (Timed timed) = SpellsPathAt word timed
SpellsValue word (Source source) = SpellsSource word source
SpellsValue word (Bytes bytes) = SpellsBytes word bytes
SpellsValue word (Policy policy) = ReadsPolicy word (Ok policy)
