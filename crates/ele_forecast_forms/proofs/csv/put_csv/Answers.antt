use Rattle.std.proofs.Common.{arith}
use Rattle.ele_forecast_forms.specs.Csv.{version_row}
use Rattle.ele_output.proofs.Lists.{list_done, list_more}
use Rattle.ele_forecast_text.proofs.Lines.{put_start}
use Rattle.ele_forecast_forms.proofs.csv.put_csv.Goals as goal

pub loop-version-init : goal.loop-version-init
loop-version-init g c = rw c.versions_of-versions.ensures (put_start c.put_heading.ensures)

pub loop-version-preserved : goal.loop-version-preserved
loop-version-preserved g c =
    list_more (version_row c.args.details.now c.args.plans.now) c.versions_of-versions.result.now c.loop-version.version-index c.version-item.result (omega arith) c.version-item.is c.loop-version.invariant c.put_row.ensures

pub returns : goal.returns
returns g c =
    list_done (version_row c.args.details.now c.args.plans.now) c.versions_of-versions.result.now c.loop-version.version-index c.loop-version-test.false c.loop-version.invariant
