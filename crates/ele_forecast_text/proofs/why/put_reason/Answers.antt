use Rattle.ele_forecast_text.proofs.why.put_reason.Goals as goal

pub returns-in-AfterLast : goal.returns-in-AfterLast
returns-in-AfterLast g c = rw c.in-AfterLast.is c.put-in-AfterLast.ensures
