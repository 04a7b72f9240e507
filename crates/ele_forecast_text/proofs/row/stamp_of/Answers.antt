use Rattle.std.proofs.Common.{sym}
use Rattle.ele_forecast_text.proofs.Dates.{stamps}
use Rattle.ele_forecast_text.proofs.row.stamp_of.Goals as goal

pub returns : goal.returns
returns c = sym (c.text.ensures.only _ (stamps c.args.moment c.lemma_in_range.ensures))
