use Rattle.ele_evidence.proofs.Basics.{List, ap, ℕ, ◌++◌, ◌∙◌}
use Rattle.ele_output.proofs.Known.{puts_as, puts_then}
use Rattle.ele_evidence.proofs.text.put_row.Goals as goal

pub returns-clause-printed : goal.returns-clause-printed
returns-clause-printed g c = puts_as (ap (λ (line : List ℕ). c.args.row.now ++ line) (c.bytes.ensures ∙ c.below-line.ensures)) (puts_then c.put.ensures c.put-2.ensures)
