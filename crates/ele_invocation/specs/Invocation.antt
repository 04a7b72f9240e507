-- What the program's words ask for.
use Rattle.std.specs.Prelude.{ℕ, ◌≡◌, ◌≢◌, ◌⊎◌, Bool, true, false, List, [], ◌∷◌, Option, MatchBool, MatchOption, option_map, slice_get, string_bytes, unwrap_or, codes}
use Rattle.std.specs.Str.{bytes_eq}
use Rattle.ele_help.specs.Topics.{has_help}
use Rattle.ele_model.specs.Bounds.{largest_bounds}
use Rattle.ele_invocation.specs.Program.{commands_for, program_app}
use Rattle.ele_invocation.specs.Runs.{AsksRun, options_of}
use Rattle.ele_invocation.specs.Storms.{AsksStorm}
use Rattle.ele_invocation.specs.Forecasts.{AsksForecast}
use Rattle.ele_invocation.specs.Topics.{topic_in}
use Rattle.ele_invocation.specs.declared.invocation.Invocation.{Invocation}
use Rattle.ele_invocation.specs.declared.invocation.Invocation.TheVariants.{Run, Storm, Forecast, Evidence, Verify, Help, NotUnderstood, NoMemory}
use Rattle.clap.specs.Words.{App, IsAmong, Kinds, Row, Text, fault_of, first_of, subcommand_of}
use Rattle.clap.specs.declared.error.kind.ErrorKind.{ErrorKind}
use Rattle.clap.specs.declared.error.kind.ErrorKind.TheVariants.{DisplayHelp, DisplayVersion}

-- it is a storm, which takes threads
abbrev pub is_storm : Invocation → Bool
is_storm (Storm plan) = true
is_storm asked = false

-- the arguments aren't understood, or there is no memory for a message
abbrev pub IsRefusal : Invocation → Type 0
IsRefusal (Run limits options) = ⊥
IsRefusal (Storm plan) = ⊥
IsRefusal (Forecast ask others) = ⊥
IsRefusal Evidence = ⊥
IsRefusal Verify = ⊥
IsRefusal (Help text) = ⊥
IsRefusal (NotUnderstood text) = Unit {0}
IsRefusal NoMemory = Unit {0}

-- it is a refusal, and nothing is asked for
abbrev pub Refuses : {X : Type 0} → (X → Type 0) → Invocation → Type 0
Refuses {X} Asks asked = IsRefusal asked × ((x : X) → ¬ Asks x)

-- the run that the matches ask for, under the largest limits but for its events; or a refusal if they ask for none
abbrev pub IsRun : List Row → Invocation → Type 0
IsRun rows (Run limits options) =
    AsksRun rows limits.events × (limits ≡ record largest_bounds { events = limits.events }) × (options ≡ options_of rows)
IsRun rows asked = Refuses (AsksRun rows) asked

-- the storm that the matches ask for; or a refusal if they ask for none
abbrev pub IsStorm : List Row → Invocation → Type 0
IsStorm rows (Storm plan) = AsksStorm rows plan
IsStorm rows asked = Refuses (AsksStorm rows) asked

-- the forecast that the matches ask for where a clock shows now, and the name of the file with the labels of another tool; or a refusal if
-- they ask for none, or there is no memory for its lists
abbrev pub IsForecast : Option ℕ → List Row → Invocation → Type 0
IsForecast now rows (Forecast ask others) = AsksForecast now rows ask × (option_map string_bytes others ≡ first_of (codes "against") rows)
IsForecast now rows NoMemory = Unit {0}
IsForecast now rows asked = Refuses (AsksForecast now rows) asked

-- help on words that have some, and a refusal of others; or there was no memory for the text
abbrev pub IsHelp : Bool → Invocation → Type 0
IsHelp true (Help text) = Unit {0}
IsHelp false (NotUnderstood text) = Unit {0}
IsHelp has NoMemory = Unit {0}
IsHelp has asked = ⊥

-- what a command asks for by its matches
abbrev pub IsCommand : Option ℕ → Text → List Row → Invocation → Type 0
IsCommand now name rows asked =
    MatchBool (bytes_eq name (codes "run")) (IsRun rows asked)
    (MatchBool (bytes_eq name (codes "storm")) (IsStorm rows asked)
    (MatchBool (bytes_eq name (codes "forecast")) (IsForecast now rows asked)
    (MatchBool (bytes_eq name (codes "evidence")) (asked ≡ Evidence)
    (MatchBool (bytes_eq name (codes "verify")) (asked ≡ Verify)
    (MatchBool (bytes_eq name (codes "script")) (IsHelp true asked) (IsRefusal asked))))))

-- an error of clap: help and the version are shown, and all others refuse the words
abbrev pub IsShown : ErrorKind → Invocation → Type 0
IsShown kind (Help text) = (kind ≡ DisplayHelp) ⊎ (kind ≡ DisplayVersion)
IsShown kind (NotUnderstood text) = (kind ≢ DisplayHelp) × (kind ≢ DisplayVersion)
IsShown kind NoMemory = Unit {0}
IsShown kind asked = ⊥

-- by the kinds of error that clap may have: one of them, or if there is none what the command that it found asks for
abbrev pub IsFound : Option ℕ → Kinds → Option (Text × List Row) → Invocation → Type 0
IsFound now [] found asked = MatchOption found (IsRefusal asked) (λ command. IsCommand now command.0 command.1 asked)
IsFound now (kind ∷ kinds) found asked = (shown : ErrorKind) × IsAmong shown (kind ∷ kinds) × IsShown shown asked

-- the same, or there was no memory to read the words
abbrev pub IsRead : Option ℕ → Kinds → Option (Text × List Row) → Invocation → Type 0
IsRead now kinds found asked = IsFound now kinds found asked ⊎ (asked ≡ NoMemory)

-- the program as clap reads it for these words, of which the first is its name
abbrev pub app_for : List Text → App
app_for words = program_app (commands_for (unwrap_or (slice_get words 1) []))

-- the kinds of error that clap has for the words: none, if it reads them
unfoldable pub faults_in : List Text → Kinds
faults_in words = fault_of (app_for words) words

-- the command that the words name, and its matches
unfoldable pub command_in : List Text → Option (Text × List Row)
command_in words = subcommand_of (app_for words) words

-- the words ask for the help on a topic, or for what clap reads in them where a clock shows now
abbrev pub IsAsked : Option ℕ → List Text → Invocation → Type 0
IsAsked now words asked = MatchOption (topic_in words) (IsRead now (faults_in words) (command_in words) asked) (λ topic. IsHelp (has_help topic.0 topic.1) asked)
