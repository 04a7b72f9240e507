-- The program as clap reads it: its commands, and the arguments of each.
use Rattle.std.specs.Prelude.{true, false, List, [], ◌∷◌, ◌++◌, Some, if◌then◌else◌, codes}
use Rattle.std.specs.Str.{bytes_eq}
use Rattle.clap.specs.Words.{App, Rule, Shape, Text, new_app, new_rule}
use Rattle.clap.specs.declared.builder.action.ArgAction.TheVariants.{Append, SetTrue}

-- `--name`
abbrev pub flag_rule : Text → Rule
flag_rule name = record (new_rule name) { long = Some name; action = Some SetTrue }

-- `--name VALUE`
abbrev pub option_rule : Text → Rule
option_rule name = record (new_rule name) { long = Some name; value_names = 1 }

-- `--name VALUE`, with this value if it isn't given
abbrev pub default_rule : Text → Text → Rule
default_rule name value = record (option_rule name) { defaults = value ∷ [] }

-- `--name VALUE`, once or more
abbrev pub repeated_rule : Text → Rule
repeated_rule name = record (option_rule name) { action = Some Append }

abbrev pub command_shape : Text → List Rule → Shape
command_shape name rules = record (new_app name).top { rules = rules }

-- a word that is no option is read as a file, and refused later
abbrev pub run_shape : Shape
run_shape = command_shape (codes "run") (default_rule (codes "events") (codes "1000000") ∷ new_rule (codes "file")
    ∷ flag_rule (codes "strict") ∷ flag_rule (codes "numbers") ∷ flag_rule (codes "remarks") ∷ flag_rule (codes "explain") ∷ [])

abbrev pub storm_shape : Shape
storm_shape = command_shape (codes "storm") (default_rule (codes "writers") (codes "2")
    ∷ default_rule (codes "historians") (codes "1") ∷ default_rule (codes "rounds") (codes "10") ∷ [])

-- what is forecast, and when; a word that is no option is read as a file, and refused later
abbrev pub asked_rules : List Rule
asked_rules = new_rule (codes "file") ∷ repeated_rule (codes "policy") ∷ repeated_rule (codes "at") ∷ option_rule (codes "every")
    ∷ repeated_rule (codes "rule") ∷ option_rule (codes "offset") ∷ []

-- the fields of its input, and its form
abbrev pub form_rules : List Rule
form_rules = flag_rule (codes "labels") ∷ flag_rule (codes "sizes") ∷ option_rule (codes "list") ∷ flag_rule (codes "svg")
    ∷ option_rule (codes "title") ∷ flag_rule (codes "json") ∷ flag_rule (codes "csv") ∷ []

-- what is compared with the versions that stay, and what a suggested policy is to keep
abbrev pub answer_rules : List Rule
answer_rules = option_rule (codes "against") ∷ flag_rule (codes "suggest") ∷ option_rule (codes "keep") ∷ option_rule (codes "versions")
    ∷ option_rule (codes "bytes") ∷ []

-- a forecast that gives no answer
abbrev pub plain_shape : Shape
plain_shape = command_shape (codes "forecast") (asked_rules ++ form_rules)

abbrev pub forecast_shape : Shape
forecast_shape = command_shape (codes "forecast") (asked_rules ++ (form_rules ++ answer_rules))

abbrev pub evidence_shape : Shape
evidence_shape = command_shape (codes "evidence") []

abbrev pub verify_shape : Shape
verify_shape = command_shape (codes "verify") []

-- prints the topic of that name
abbrev pub script_shape : Shape
script_shape = command_shape (codes "script") []

-- the program itself: it has a version, and wants a command
abbrev pub program_shape : Shape
program_shape = record (new_app (codes "elephant")).top {
  has_version = true;
  arg_required_else_help = true;
  subcommand_required = true;
}

-- the program with these commands
abbrev pub program_app : List Shape → App
program_app commands = record { top = record program_shape { is_leaf = false }; subs = commands }

abbrev pub all_commands : List Shape
all_commands = run_shape ∷ storm_shape ∷ forecast_shape ∷ evidence_shape ∷ verify_shape ∷ script_shape ∷ []

-- the commands that clap gets: the one that this word names, and otherwise each
abbrev pub commands_for : Text → List Shape
commands_for word =
    if bytes_eq word (codes "run") then run_shape ∷ []
    else (if bytes_eq word (codes "storm") then storm_shape ∷ []
    else (if bytes_eq word (codes "forecast") then forecast_shape ∷ []
    else all_commands))
