use Rattle.std.proofs.Common.{ap}
use Rattle.std.specs.Result.{result_ok}
use Rattle.ele_invocation.proofs.reading.read_at.Goals as goal

pub returns-in-None-clause-only : goal.returns-in-None-clause-only
returns-in-None-clause-only c m is = rw c.ok.ensures.value (ap result_ok (c.read_time.ensures.only m (rw c.in-None.is at is)))
