use Rattle.ele_forecast_laws.proofs.Whenever.{cleaned_whenever}
use Rattle.ele_forecast_laws.proofs.cleaned_whenever.Goals as goal

pub returns : goal.returns
returns c = cleaned_whenever c.schedule.ensures
