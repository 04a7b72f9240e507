use Rattle.ele_invocation.proofs.Builders.{set_up}
use Rattle.ele_invocation.proofs.invocation.program.Goals as goal

pub returns : goal.returns
returns c = set_up _ _ _ _ _ c.command_of.ensures c.version.ensures c.subcommand_required.ensures c.arg_required_else_help.ensures
