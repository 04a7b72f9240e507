use Rattle.ele_names.proofs.Restored.{born_lives, dead_row}
use Rattle.ele_names.proofs.names.Names.add_row.Goals as goal

pub kill-requires : goal.kill-requires
kill-requires c = rw c.in_ok-add.ensures.ok (born_lives _ c.args.row.now c.requires)

pub returns : goal.returns
returns c = rw (c.kill.ensures, c.in_ok-add.ensures.ok) (dead_row _ c.args.row.now c.requires c.in-Some.death c.in-Some.is)
