use Rattle.ele_forecast_laws.proofs.Whenever.{pass_leaves_staying}
use Rattle.ele_forecast_laws.proofs.pass_leaves_staying.Goals as goal

pub returns : goal.returns
returns c = pass_leaves_staying c.pass_leaves_kept.ensures
