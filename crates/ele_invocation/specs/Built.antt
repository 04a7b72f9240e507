-- What clap reads of an argument and a command while they are built. No public clause cites this module.
use Rattle.std.specs.Prelude.{◌≡◌, false, []}
use Rattle.clap.specs.Words.{App, Rule, Shape, app_of, rule_of}
use Rattle.clap.specs.declared.builder.arg.Arg.{Arg}
use Rattle.clap.specs.declared.builder.command.Command.{Command}
use Rattle.clap.specs.declared.builder.command.Command.TheViews.{out-Command as fields_of}

-- clap reads the argument by this rule
pub record HasRule (rule : Rule) (arg : Arg) : Type 0 where
  pub rule_is : rule_of arg ≡ rule
  pub local : arg.global ≡ false

-- clap reads the command as this one, with its commands
pub record HasApp (app : App) (command : Command) : Type 0 where
  pub app_is : app_of command ≡ app
  pub local : (fields_of command).has_globals ≡ false

-- the same, of a command that has none
abbrev pub HasShape : Shape → Command → Type 0
HasShape shape = HasApp (record { top = shape; subs = [] })
