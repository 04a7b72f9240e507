-- Commands and arguments as clap reads them, after each step of a builder.
use Rattle.std.proofs.Common.{◌≡◌, ◌∙◌, ◌||◌, ℕ, List, Some, true, codes, ap, ap₂}
use Rattle.std.specs.Borrow.{Bor}
use Rattle.clap.specs.Words.{AddsArg, AddsSubcommand, App, Rule, Shape, new_app, with_rule, with_subcommand}
use Rattle.clap.specs.declared.builder.arg.Arg.{Arg}
use Rattle.clap.specs.declared.builder.command.Command.{Command}
use Rattle.clap.specs.declared.builder.command.Command.TheViews.{out-Command as fields_of}
use Rattle.ele_invocation.specs.Built.{HasApp, HasRule, HasShape}
use Rattle.ele_invocation.specs.Program.{program_shape}

-- one more argument
pub adds_arg : {app : App} {rule : Rule} {old : Command} {arg : Arg} {new : Command} → HasApp app old → HasRule rule arg → AddsArg old arg new → HasApp (with_rule app rule) new
adds_arg is has added = record {
  app_is = added.shape has.local ∙ ap₂ with_rule is.app_is has.rule_is;
  local = added.globals ∙ ap₂ ◌||◌ is.local has.local;
}

-- one more command
pub adds_command : {app : App} {shape : Shape} {old sub new : Command} → HasApp app old → HasShape shape sub → AddsSubcommand old sub new → HasApp (with_subcommand app shape) new
adds_command is has added = record {
  app_is = added.shape has.local ∙ ap₂ with_subcommand is.app_is (ap (λ (a : App). a.top) has.app_is);
  local = added.globals ∙ ap₂ ◌||◌ is.local has.local;
}

-- the settings of the program
pub set_up : (old versioned wanting new : Command) (text : Bor (List ℕ)) → HasShape (new_app (codes "elephant")).top old → fields_of versioned ≡ record (fields_of old) { version = Some text }
    → fields_of wanting ≡ record (fields_of versioned) { subcommand_required = true } → fields_of new ≡ record (fields_of wanting) { arg_required_else_help = true } → HasShape program_shape new
set_up old versioned wanting new text is v s h =
    record {
      app_is = rw (h, s, v) (ap (λ (a : App). record a { top = record a.top { has_version = true; subcommand_required = true; arg_required_else_help = true } }) is.app_is);
      local = rw (h, s, v) is.local;
    }
