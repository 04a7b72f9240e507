use Rattle.ele_output.proofs.Known.{puts_then}
use Rattle.ele_svg_marks.proofs.mark.put_said.Goals as goal

pub returns-in-Closings : goal.returns-in-Closings
returns-in-Closings g c = rw c.in-Closings.is c.put-in-Closings.ensures

pub returns-in-Level : goal.returns-in-Level
returns-in-Level g c = rw c.in-Level.is (puts_then c.put_length.ensures c.put_length-in-Level.ensures)

pub returns-in-Bars : goal.returns-in-Bars
returns-in-Bars g c = rw c.in-Bars.is c.put-in-Bars.ensures

pub returns-in-VersionsAxis : goal.returns-in-VersionsAxis
returns-in-VersionsAxis g c = rw c.in-VersionsAxis.is c.put-in-VersionsAxis.ensures

pub returns-in-Stay : goal.returns-in-Stay
returns-in-Stay g c = rw c.in-Stay.is (puts_then c.put_number-in-Stay.ensures c.put-in-Stay.ensures)
