use Rattle.ele_forecast_text.proofs.Known.{version_parts}
use Rattle.ele_output.proofs.Known.{puts_as, puts_then}
use Rattle.std.proofs.Common.{sym}
use Rattle.ele_forecast_text.proofs.row.put_version.Goals as goal

pub returns : goal.returns
returns g c =
    puts_as (sym (version_parts c.args.policy.now c.args.forecast.now)) (puts_then (rw c.number.view_is at c.put_number.ensures) c.put_told.ensures)
