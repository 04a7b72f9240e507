use Rattle.ele_forecast_text.proofs.Known.{spaced_both}
use Rattle.ele_output.proofs.Known.{puts_as, puts_then}
use Rattle.std.proofs.Common.{sym}
use Rattle.ele_forecast_text.proofs.details.put_details.Goals as goal

pub returns : goal.returns
returns g c =
    puts_as (sym (spaced_both _ _)) (puts_then (rw (c.name_of-name.ensures, c.as_slice.ensures.value) at c.put_word_if.ensures)
    (rw (c.as_bytes.ensures.value, c.format.ensures.text, c.size_of-size.ensures, c.as_slice-2.ensures.value) at c.put_word_if-2.ensures))
