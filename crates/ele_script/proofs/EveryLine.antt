-- Each line asks for something or has a first fault.
use Rattle.ele_script.proofs.Basics.{◌≡◌, ℕ, ◌==◌, ◌≤◌, Bool, true, false, List, [], ◌∷◌, length, refl, ap, subst, ◌∙◌, ◌⊎◌, inl, inr, Option, Some, None, ℕ_discrete, dec_le}
use Rattle.ele_script.proofs.Prelude.{Line, Command, LineFault, Syntax, WordKind, NumberWord, HandleWord, VersionWord, MomentWord, EndWord, NameWord, PathWord, TaggedWord, TimedWord, SourceWord, BytesWord, PolicyWord, word_kind, Value, Moment, Name, Path, Timed, Bytes, kinds_behind, kinds_if, kinds_of, longest_line, words_of, is_worded, SpellsWords, Asks, IsFaultOfWords, of_word, IsFirstFault, too_long, not_worded, of_words, miscounted}
use Rattle.std.proofs.Math.Nat.{lt_of_not-le}
use Rattle.ele_commands.specs.declared.command.Command.TheVariants as command
use Rattle.ele_printer.specs.declared.fault.LineFault.TheVariants.{LineTooLong}
use Rattle.ele_model.specs.declared.event.Event.TheVariants as event
use Rattle.ele_model.specs.declared.event.Source.{Source as AnySource}
use Rattle.ele_path.specs.declared.path_at.PathAt.{PathAt}
use Rattle.ele_path.specs.declared.tagged.TaggedPath.{TaggedPath}
use Rattle.ele_policy.specs.declared.policy.Policy.{Policy as AnyPolicy}
use Rattle.ele_script.specs.declared.reading.Line.TheVariants as asks
use Rattle.ele_script.specs.declared.reading.Question.TheVariants as question
use Rattle.ele_script.specs.CommandOf.{command_in}
use Rattle.ele_script.specs.EveryLine.{EveryLineMeaning}
use Rattle.ele_commands.specs.Command.{is_allowed}
use Rattle.ele_script.specs.Spells.{line_parts}
use Rattle.ele_script.specs.Value.{Number, Handle, Version, End, Tagged, Source, Policy}
use Rattle.ele_script.proofs.Commands.{allowed_found, fault_of_words, unfit_words, words_found}
use Rattle.ele_script.proofs.Laws.{value_kinds}
use Rattle.ele_script.proofs.WordMeanings.{words_meaning}

-- what a value of the kind holds
abbrev Held : WordKind → Type 0
Held NumberWord = ℕ
Held HandleWord = ℕ
Held VersionWord = ℕ
Held MomentWord = ℕ
Held EndWord = ℕ
Held NameWord = List ℕ
Held PathWord = List (List ℕ)
Held TaggedWord = TaggedPath
Held TimedWord = PathAt
Held SourceWord = AnySource
Held BytesWord = List ℕ
Held PolicyWord = AnyPolicy

abbrev holding : (kind : WordKind) → Held kind → Value
holding NumberWord n = Number n
holding HandleWord n = Handle n
holding VersionWord n = Version n
holding MomentWord m = Moment m
holding EndWord m = End m
holding NameWord name = Name name
holding PathWord names = Path names
holding TaggedWord tagged = Tagged tagged
holding TimedWord timed = Timed timed
holding SourceWord source = Source source
holding BytesWord bytes = Bytes bytes
holding PolicyWord policy = Policy policy

held : (value : Value) → (x : Held (word_kind value)) × (holding (word_kind value) x ≡ value)
held (Number n) = (n, refl)
held (Handle n) = (n, refl)
held (Version n) = (n, refl)
held (Moment m) = (m, refl)
held (End m) = (m, refl)
held (Name name) = (name, refl)
held (Path names) = (names, refl)
held (Tagged tagged) = (tagged, refl)
held (Timed timed) = (timed, refl)
held (Source source) = (source, refl)
held (Bytes bytes) = (bytes, refl)
held (Policy policy) = (policy, refl)

-- what values of the kinds hold
record Both (A B : Type 0) : Type 0 where
  first : A
  rest : B

abbrev AllHeld : List WordKind → Type 0
AllHeld [] = Unit {0}
AllHeld (kind ∷ kinds) = Both (Held kind) (AllHeld kinds)

abbrev holding_all : (kinds : List WordKind) → AllHeld kinds → List Value
holding_all [] x = []
holding_all (kind ∷ kinds) x = holding kind x.first ∷ holding_all kinds x.rest

all_held : (values : List Value) → (x : AllHeld (value_kinds values)) × (holding_all (value_kinds values) x ≡ values)
all_held [] = (tt, refl)
all_held (value ∷ values) =
    let one = held value in
    let more = all_held values in
    (record { first = one.0; rest = more.0 }, cc (one.1, more.1))

-- a command and what values of its kinds hold ask for something
asks_of : (name : Command) (ended : Bool) (x : AllHeld (kinds_if name ended)) → (asked : Line) × ((line_parts asked).0 ≡ name) × ((line_parts asked).1 ≡ holding_all (kinds_if name ended) x)
asks_of command.Clock ended x = (asks.Event (event.Clock x.first), refl, refl)
asks_of command.Tick ended x = (asks.Event (event.Tick x.first), refl, refl)
asks_of command.MakeDir ended x = (asks.Event (event.MakeDir x.first), refl, refl)
asks_of command.RemoveDir ended x = (asks.Event (event.RemoveDir x.first), refl, refl)
asks_of command.Create ended x = (asks.Event (event.Create x.first), refl, refl)
asks_of command.Link ended x = (asks.Event (event.Link x.first x.rest.first), refl, refl)
asks_of command.Unlink ended x = (asks.Event (event.Unlink x.first), refl, refl)
asks_of command.Rename ended x = (asks.Event (event.Rename x.first x.rest.first), refl, refl)
asks_of command.Undelete ended x = (asks.Event (event.Undelete x.first), refl, refl)
asks_of command.OpenWrite ended x = (asks.Event (event.OpenWrite x.first), refl, refl)
asks_of command.OpenRead ended x = (asks.Event (event.OpenRead x.first), refl, refl)
asks_of command.Write ended x = (asks.Event (event.Write x.first x.rest.first x.rest.rest.first), refl, refl)
asks_of command.Truncate ended x = (asks.Event (event.Truncate x.first x.rest.first), refl, refl)
asks_of command.Close ended x = (asks.Event (event.Close x.first), refl, refl)
asks_of command.Abandon ended x = (asks.Event (event.Abandon x.first), refl, refl)
asks_of command.Save ended x = (asks.Event (event.Save x.first x.rest.first), refl, refl)
asks_of command.Revert ended x = (asks.Event (event.Revert x.first x.rest.first), refl, refl)
asks_of command.Restore ended x = (asks.Event (event.Restore x.first x.rest.first), refl, refl)
asks_of command.SetPolicy ended x = (asks.Event (event.SetPolicy x.first x.rest.first), refl, refl)
asks_of command.Default ended x = (asks.Event (event.SetDefault x.first x.rest.first), refl, refl)
asks_of command.GroupMake ended x = (asks.Event (event.GroupMake x.first), refl, refl)
asks_of command.GroupDrop ended x = (asks.Event (event.GroupDrop x.first), refl, refl)
asks_of command.GroupAdd ended x = (asks.Event (event.GroupAdd x.first x.rest.first), refl, refl)
asks_of command.GroupRemove ended x = (asks.Event (event.GroupRemove x.first x.rest.first), refl, refl)
asks_of command.Mark false x = (asks.Event (event.Mark x.first x.rest.first None), refl, refl)
asks_of command.Mark true x = (asks.Event (event.Mark x.first x.rest.first (Some x.rest.rest.first)), refl, refl)
asks_of command.Unmark ended x = (asks.Event (event.Unmark x.first x.rest.first), refl, refl)
asks_of command.Clean ended x = (asks.Event event.CleanOne, refl, refl)
asks_of command.Note ended x = (asks.Event (event.Note x.first), refl, refl)
asks_of command.Read ended x = (asks.Event (event.Read x.first), refl, refl)
asks_of command.Stat ended x = (asks.Event (event.Stat x.first), refl, refl)
asks_of command.Versions ended x = (asks.Event (event.Versions x.first), refl, refl)
asks_of command.ListNames ended x = (asks.Event (event.List x.first), refl, refl)
asks_of command.Restorable ended x = (asks.Event event.Restorable, refl, refl)
asks_of command.Due ended x = (asks.Event event.Due, refl, refl)
asks_of command.Usage ended x = (asks.Event event.UsageAll, refl, refl)
asks_of command.Groups ended x = (asks.Event event.GroupsAll, refl, refl)
asks_of command.Pass ended x = (asks.Pass x.first, refl, refl)
asks_of command.History ended x = (asks.History, refl, refl)
asks_of command.Trim ended x = (asks.Trim, refl, refl)
asks_of command.Why ended x = (asks.Question (question.Why x.first), refl, refl)
asks_of command.Ahead ended x = (asks.Question (question.Ahead x.first), refl, refl)
asks_of command.Gone ended x = (asks.Question question.Gone, refl, refl)
asks_of command.Handles ended x = (asks.Question question.Handles, refl, refl)
asks_of command.Answers ended x = (asks.Question question.Answers, refl, refl)
asks_of command.Story ended x = (asks.Question (question.Story x.first), refl, refl)
asks_of command.Removals ended x = (asks.Question question.Removals, refl, refl)
asks_of command.Changes false x = (asks.Question (question.Changes x.first x.rest.first None), refl, refl)
asks_of command.Changes true x = (asks.Question (question.Changes x.first x.rest.first (Some x.rest.rest.first)), refl, refl)
asks_of command.Expiring ended x = (asks.Question (question.Expiring x.first), refl, refl)

-- and so do values of its kinds
asked_by : (name : Command) (ended : Bool) (values : List Value) → value_kinds values ≡ kinds_if name ended → (asked : Line) × ((line_parts asked).0 ≡ name) × ((line_parts asked).1 ≡ values)
asked_by name ended values kinds =
    let all = subst (λ (ks : List WordKind). (x : AllHeld ks) × (holding_all ks x ≡ values)) kinds (all_held values) in
    let line = asks_of name ended all.0 in
    (line.0, line.1, line.2 ∙ all.1)

-- words ask for something or have a first fault, in a run that explains and in one that doesn't
abbrev Means : Bool → List (List ℕ) → Type 0
Means explains words =
    ((asked : Line) × SpellsWords words asked × (is_allowed explains (line_parts asked).0 ≡ true)) ⊎ ((fault : LineFault) × IsFaultOfWords explains words fault)

words_ask : (explains : Bool) (words : List (List ℕ)) (command : Command) (arguments : List (List ℕ)) → command_in explains words ≡ Some (command, arguments) → Means explains words
words_ask explains words command arguments found =
    let are = words_found explains words command arguments found in
    let allowed = allowed_found explains words command arguments found in
    elim (ℕ_discrete (length arguments) (length (kinds_behind command arguments))) [
      | no other ↦ inr (Syntax, fault_of_words words command arguments Syntax found (miscounted other refl))
      | yes count ↦ elim (words_meaning (kinds_behind command arguments) arguments count) [
        | inr bad ↦ inr (bad.0, of_word command arguments (record { allowed = allowed; are = are; count = count }) bad.1)
        | inl values ↦
            let line = asked_by command (length arguments == length (kinds_of command)) values.0 values.1 in
            inl (line.0, record { arguments = arguments; are = rw line.1 are; values = rw line.2 values.2 }, ap (is_allowed explains) line.1 ∙ allowed)
      ]
    ]

words_meant : (explains : Bool) (words : List (List ℕ)) → Means explains words
words_meant explains words = go (command_in explains words) refl where
  go : (found : Option (Command × List (List ℕ))) → command_in explains words ≡ found → Means explains words
  go None none = inr (Syntax, unfit_words words none)
  go (Some (command, arguments)) found = words_ask explains words command arguments found

pub every_line_meaning : EveryLineMeaning
every_line_meaning explains line = elim (dec_le (length line) longest_line) [
  | no long ↦ inr (LineTooLong, too_long (lt_of_not-le long) refl)
  | yes short ↦ worded short (is_worded line) refl
] where
  worded : length line ≤ longest_line → (test : Bool) → is_worded line ≡ test → ((asked : Line) × Asks explains line asked) ⊎ ((fault : LineFault) × IsFirstFault explains line fault)
  worded short false is = inr (Syntax, not_worded short is refl)
  worded short true is = elim (words_meant explains (words_of line)) [
    | inl asked ↦ inl (asked.0, record { short = short; spells = record { worded = is; words = asked.1 }; allowed = asked.2 })
    | inr bad ↦ inr (bad.0, of_words short is bad.1)
  ]
