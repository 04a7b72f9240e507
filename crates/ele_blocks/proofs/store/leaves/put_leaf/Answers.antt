use Rattle.ele_blocks.proofs.Lemmas.{[], arith, backing_put, refl, ◌∷◌}
use Rattle.ele_blocks.proofs.store.leaves.put_leaf.Goals as goal

pub returns-clause-backing : goal.returns-clause-backing
returns-clause-backing c id = omega (arith, backing_put c.args.leaves.now.slots c.put_reserved.new.self.slots (c.args.slot ∷ []) (c.args.slot ∷ []) [] 1 c.put_reserved.result refl refl c.put_reserved.ensures.vacant (rw c.one.ensures at c.put_reserved.ensures.sets) id)
