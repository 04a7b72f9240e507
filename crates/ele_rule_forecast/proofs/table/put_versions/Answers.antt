use Rattle.std.proofs.Common.{arith}
use Rattle.ele_rule_forecast.specs.RuledTable.{ruled_line}
use Rattle.ele_output.proofs.Lists.{list_done, list_more}
use Rattle.ele_rule_forecast.proofs.table.put_versions.Goals as goal

pub loop-version-preserved : goal.loop-version-preserved
loop-version-preserved g c =
    list_more (ruled_line c.args.details.now c.args.plans.now c.args.rules.now) c.args.versions.now c.loop-version.version-index c.version-item.result (omega arith) c.version-item.is c.loop-version.invariant c.put_version.ensures

pub returns : goal.returns
returns g c = list_done (ruled_line c.args.details.now c.args.plans.now c.args.rules.now) c.args.versions.now c.loop-version.version-index c.loop-version-test.false c.loop-version.invariant
