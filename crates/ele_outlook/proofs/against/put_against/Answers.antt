use Rattle.ele_output.proofs.Known.{puts_then}
use Rattle.ele_outlook.proofs.against.put_against.Goals as goal

pub returns-in-Table : goal.returns-in-Table
returns-in-Table g c = rw (c.in-Some.is, c.in-Table.is) (puts_then c.put_compared.ensures (rw c.as_slice.ensures.value at c.put_unknown.ensures))

pub returns-in-Json : goal.returns-in-Json
returns-in-Json g c = rw (c.in-Some.is, c.in-Json.is) (puts_then c.put_compared_json.ensures c.put.ensures)

pub returns-in-Csv : goal.returns-in-Csv
returns-in-Csv g c = rw (c.in-Some.is, c.in-Csv.is) (puts_then c.put_compared_heading.ensures c.put_compared_csv.ensures)
