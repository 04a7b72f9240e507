use Rattle.ele_output.proofs.Known.{puts_as}
use Rattle.ele_forecast_text.proofs.Known.{displaced}
use Rattle.ele_forecast_text.proofs.why.put_cause.Goals as goal

pub returns-in-AtOnce : goal.returns-in-AtOnce
returns-in-AtOnce g c = rw c.in-AtOnce.is c.put.ensures

pub returns-in-Age : goal.returns-in-Age
returns-in-Age g c = rw c.in-Age.is (rw c.seconds.ensures.value at c.put_length.ensures)

pub returns-in-Displaced : goal.returns-in-Displaced
returns-in-Displaced g c = rw c.in-Displaced.is (puts_as (displaced _ _) (rw (c.by.view_is, c.width_at.ensures) at c.put_displaced.ensures))
