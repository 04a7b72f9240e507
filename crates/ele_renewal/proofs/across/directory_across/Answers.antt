use Rattle.ele_renewal.proofs.across.directory_across.Goals as goal

pub has_directory-requires : goal.has_directory-requires
has_directory-requires c = rw c.as_slice-rows.ensures c.requires.formed.directories.placed

pub new_directory-requires : goal.new_directory-requires
new_directory-requires c = rw c.as_slice-rows.ensures c.requires.formed.directories.placed
