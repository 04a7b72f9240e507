use Rattle.ele_model.proofs.Basics.{subst, sym}
use Rattle.ele_model.proofs.Reached.{fresh_reached}
use Rattle.ele_model.specs.Reached.{IsReached}
use Rattle.ele_core.proofs.Core.new.Goals as goal

pub invariant_of-result : goal.invariant_of-result
invariant_of-result c = subst IsReached (sym c.in_ok-state.ensures) (fresh_reached c.args.limits c.lemma_within.ensures)
