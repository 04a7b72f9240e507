use Rattle.ele_audit.proofs.Gathers.{no_row}
use Rattle.ele_removals.specs.Removals.{IsTold}
use Rattle.ele_removals.proofs.replay.add_removal.Goals as goal

pub returns-in_default : goal.returns-in_default
returns-in_default g c = record {
  copy = c.requires;
  rows = no_row IsTold (g.C.Step.world c.args.core.now) c.args.reply.now c.args.rows.now.items c.in_default.not-Removed;
}
