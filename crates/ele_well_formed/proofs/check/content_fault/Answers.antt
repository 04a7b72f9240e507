use Rattle.ele_well_formed.proofs.check.content_fault.Goals as goal

pub wrong_version-requires : goal.wrong_version-requires
wrong_version-requires c = rw c.as_slice-files.ensures c.requires.numbered.files.placed

pub wrong_draft-requires : goal.wrong_draft-requires
wrong_draft-requires c = rw c.as_slice-files.ensures c.requires.numbered.files.placed
