use Rattle.ele_blocks.proofs.Lemmas.{ap, arith, get_or, Layout, leaf_is, leaf_owned, leaf_read, ◌/◌, ◌∙◌}
use Rattle.ele_blocks.proofs.map.BlockMap.leaf_of.Goals as goal

pub returns-clause-owned : goal.returns-clause-owned
returns-clause-owned c =
    let same = c.as_slice.ensures ∙ ap (λ (m : Layout). m.leaves) c.self.view_is in
    grind (arith, same, leaf_owned c.args.store.now c.args.self.now c.requires.lives c.args.slot (get_or c.args.self.now.leaves (c.args.slot / 16) 0) c.requires.within (leaf_read c.args.store.now c.args.self.now c.requires.lives c.args.slot c.requires.within))

pub returns-clause-is : goal.returns-clause-is
returns-clause-is c =
    let same = c.as_slice.ensures ∙ ap (λ (m : Layout). m.leaves) c.self.view_is in
    grind (arith, same, leaf_is c.args.store.now c.args.self.now c.requires.lives c.args.slot (get_or c.args.self.now.leaves (c.args.slot / 16) 0) c.requires.within (leaf_read c.args.store.now c.args.self.now c.requires.lives c.args.slot c.requires.within))
