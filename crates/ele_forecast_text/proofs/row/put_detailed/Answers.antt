use Rattle.ele_forecast_text.proofs.Known.{detailed_parts}
use Rattle.ele_output.proofs.Known.{puts_as, puts_then}
use Rattle.std.proofs.Common.{sym}
use Rattle.ele_forecast_text.proofs.row.put_detailed.Goals as goal

pub returns : goal.returns
returns g c =
    puts_as (sym (detailed_parts c.args.policy.now c.args.details.now c.args.forecast.now)) (puts_then (rw c.number.view_is at c.put_number.ensures) (
    puts_then c.put_details.ensures c.put_told.ensures))
