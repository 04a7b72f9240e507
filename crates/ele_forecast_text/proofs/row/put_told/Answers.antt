use Rattle.std.proofs.Common.{[], ◌∷◌, sym}
use Rattle.ele_forecast_text.specs.Stamp.{stamp_of, stamp_or}
use Rattle.ele_forecast_text.proofs.Known.{joined, told_parts, why_spaced}
use Rattle.ele_output.proofs.Known.{puts_as, puts_then}
use Rattle.ele_forecast_text.proofs.row.put_told.Goals as goal

pub returns : goal.returns
returns g c =
    let told = c.args.forecast.now in
    let moments = stamp_of told.closed ∷ stamp_or told.ended ∷ stamp_or told.ripe ∷ [] in
    puts_as (sym (told_parts c.args.policy.now told)) (
    puts_then (puts_as (joined [] moments) (rw (c.stamp_of-closed.ensures, c.stamp_or-ended.ensures, c.stamp_or-due.ensures) at c.put_words.ensures)) (
    puts_then (puts_as (sym (why_spaced c.args.policy.now told.why)) (puts_then c.put_byte.ensures c.put_reason.ensures)) c.put.ensures))
