use Rattle.std.proofs.Common.{◌-◌, ◌≤◌, arith, length}
use Rattle.std.proofs.lemmas.Option.{slice_get_past}
use Rattle.ele_svg.proofs.Ties.{no_tie}
use Rattle.ele_svg.proofs.rows.put_tie_to.Goals as goal

pub returns-in-None : goal.returns-in-None
returns-in-None g c =
    let past : length c.args.forecasts.now ≤ c.args.by - 1 = omega (arith, c.in-None.ensures.lookup.3, c.saturating_sub.ensures, c.by.view_is) in
    no_tie _ c.args.page.now c.args.forecast.now.number c.args.forecast.now.ripe _ (slice_get_past c.args.forecasts.now (c.args.by - 1) past)
