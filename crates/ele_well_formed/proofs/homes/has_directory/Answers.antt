use Rattle.ele_well_formed.proofs.Words.{is_directory, sym}
use Rattle.ele_well_formed.proofs.Searches.{any_is_found, copied_some}
use Rattle.ele_well_formed.proofs.homes.has_directory.Goals as goal

pub returns : goal.returns
returns c = rw (c.is_some.ensures, ← copied_some c.row_of.result, c.row_of.ensures) (sym (any_is_found (is_directory c.args.id) c.args.directories.now))
