use Rattle.ele_well_formed.proofs.check.home_fault.Goals as goal

pub wrong_home-requires : goal.wrong_home-requires
wrong_home-requires c = rw c.as_slice-directories.ensures c.requires.numbered.directories.placed
