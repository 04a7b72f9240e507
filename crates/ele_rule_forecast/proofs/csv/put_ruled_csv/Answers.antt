use Rattle.std.proofs.Common.{arith}
use Rattle.ele_rule_forecast.specs.RuledCsv.{ruled_row}
use Rattle.ele_output.proofs.Known.{puts_then}
use Rattle.ele_output.proofs.Lists.{list_done, list_more}
use Rattle.ele_forecast_text.proofs.Lines.{put_start}
use Rattle.ele_rule_forecast.proofs.csv.put_ruled_csv.Goals as goal

pub loop-version-init : goal.loop-version-init
loop-version-init g c = rw c.versions_of-versions.ensures (put_start (puts_then c.put_heading_fields.ensures c.put_rule_headings.ensures))

pub loop-version-preserved : goal.loop-version-preserved
loop-version-preserved g c =
    list_more (ruled_row c.args.details.now c.args.plans.now c.args.rules.now) c.versions_of-versions.result.now c.loop-version.version-index c.version-item.result (omega arith) c.version-item.is c.loop-version.invariant c.put_row.ensures

pub returns : goal.returns
returns g c =
    list_done (ruled_row c.args.details.now c.args.plans.now c.args.rules.now) c.versions_of-versions.result.now c.loop-version.version-index c.loop-version-test.false c.loop-version.invariant
