use Rattle.ele_well_formed.proofs.Words.{is_draft, sym}
use Rattle.ele_well_formed.proofs.Searches.{any_is_found, copied_some}
use Rattle.ele_well_formed.proofs.drafts.has_draft.Goals as goal

pub returns : goal.returns
returns c = rw (c.is_some.ensures, ← copied_some c.row_of.result, c.row_of.ensures) (sym (any_is_found (is_draft c.args.file) c.args.drafts.now))
