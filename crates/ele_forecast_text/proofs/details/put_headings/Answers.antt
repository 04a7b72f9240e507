use Rattle.ele_forecast_text.proofs.Known.{spaced_both}
use Rattle.ele_output.proofs.Known.{puts_as, puts_then}
use Rattle.std.proofs.Common.{sym}
use Rattle.ele_forecast_text.proofs.details.put_headings.Goals as goal

pub returns : goal.returns
returns g c = puts_as (sym (spaced_both _ _)) (puts_then c.put_word_if.ensures c.put_word_if-2.ensures)
