use Rattle.ele_audit.proofs.Gathers.{no_row}
use Rattle.ele_audit.specs.Removals.{IsExplained}
use Rattle.ele_audit.proofs.gone.explain.Goals as goal

pub returns-in_default : goal.returns-in_default
returns-in_default g c = record {
  copy = c.requires;
  rows = no_row IsExplained (g.C.Step.world c.args.core.now) c.args.reply.now c.args.rows.now.items c.in_default.not-Removed;
}
