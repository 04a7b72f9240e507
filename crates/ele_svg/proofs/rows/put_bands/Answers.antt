use Rattle.std.proofs.Common.{arith}
use Rattle.ele_svg.specs.Frame.{band_drawn}
use Rattle.ele_output.proofs.Known.{put_more}
use Rattle.ele_output.proofs.Lists.{here, list_done}
use Rattle.ele_svg.proofs.rows.put_bands.Goals as goal

pub loop-rung-preserved : goal.loop-rung-preserved
loop-rung-preserved g c = put_more c.loop-rung.invariant (here (band_drawn c.args.page.now c.args.rungs.now) c.args.rungs.now c.loop-rung.rung-index _ (omega arith)) (rw c.level_of.ensures at c.put_band.ensures)

pub returns : goal.returns
returns g c = list_done (band_drawn c.args.page.now c.args.rungs.now) c.args.rungs.now c.loop-rung.rung-index c.loop-rung-test.false c.loop-rung.invariant
