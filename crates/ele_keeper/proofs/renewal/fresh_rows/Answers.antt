use Rattle.std.proofs.Common.{subst}
use Rattle.ele_keeper.proofs.renewal.fresh_rows.Goals as goal
use Rattle.ele_renewal.specs.Renewed.{IsClosed}

pub returns-in-Ok-renew-clause-start : goal.returns-in-Ok-renew-clause-start
returns-in-Ok-renew-clause-start c =
    c.renewed_is_start.ensures c.args.core.now.world c.rows_of.ensures.start (subst IsClosed c.in-Ok.ensures.rows c.in-Ok-renew.ensures.closed)
