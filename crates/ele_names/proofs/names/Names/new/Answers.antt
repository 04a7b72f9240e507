use Rattle.ele_names.proofs.Lemmas.{arith, value_at, names_of}
use Rattle.ele_names.proofs.names.Names.new.Goals as goal

pub invariant_of-result : goal.invariant_of-result
invariant_of-result c = grind (arith, c.new.ensures.is (names_of c.new-2.result), c.new-2.ensures.numbered (value_at c.new.result.rows.entries), c.new.ensures.rows, c.new.ensures.live)
