use Rattle.ele_well_formed.proofs.check.group_fault.Goals as goal

pub wrong_group-requires : goal.wrong_group-requires
wrong_group-requires c = rw c.as_slice.ensures c.requires.held.named.numbered.files.placed
