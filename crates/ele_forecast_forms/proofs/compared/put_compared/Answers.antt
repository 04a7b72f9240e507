use Rattle.std.proofs.Common.{arith}
use Rattle.ele_forecast_forms.specs.Compared.{compared_line, stayings_text}
use Rattle.ele_output.proofs.Known.{put_last, puts_then}
use Rattle.ele_forecast_text.proofs.Lines.{list_more_then, list_past, put_start}
use Rattle.ele_forecast_forms.proofs.compared.put_compared.Goals as goal

pub loop-version-init : goal.loop-version-init
loop-version-init g c =
    rw c.versions_of-versions.ensures (put_start (puts_then c.put.ensures (puts_then c.put_headings.ensures (puts_then c.put-2.ensures (puts_then c.put_policies.ensures c.put-3.ensures)))))

pub loop-version-preserved : goal.loop-version-preserved
loop-version-preserved g c =
    list_more_then (compared_line c.args.details.now c.args.plans.now) c.versions_of-versions.result.now c.loop-version.version-index c.version-item.result (stayings_text c.args.details.now c.args.plans.now c.args.moments) (omega arith) c.version-item.is c.loop-version.invariant c.put_version.ensures

pub returns : goal.returns
returns g c =
    put_last (list_past (compared_line c.args.details.now c.args.plans.now) c.versions_of-versions.result.now c.loop-version.version-index (stayings_text c.args.details.now c.args.plans.now c.args.moments) c.loop-version-test.false c.loop-version.invariant) c.put_stayings.ensures
