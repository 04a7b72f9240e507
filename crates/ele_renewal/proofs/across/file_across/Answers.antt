use Rattle.ele_renewal.proofs.across.file_across.Goals as goal

pub has_file-requires : goal.has_file-requires
has_file-requires c = rw c.as_slice-rows.ensures c.requires.formed.files.placed

pub new_file-requires : goal.new_file-requires
new_file-requires c = rw c.as_slice-rows.ensures c.requires.formed.files.placed
