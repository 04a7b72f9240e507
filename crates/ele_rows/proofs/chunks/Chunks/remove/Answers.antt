use Rattle.ele_rows.proofs.Words.{ap, not_found, remove_first-unfound, sym}
use Rattle.ele_rows.proofs.chunks.Chunks.remove.Goals as goal

pub returns-in_err-chunk-clause-row : goal.returns-in_err-chunk-clause-row
returns-in_err-chunk-clause-row g c = rw (c.from_residual.ensures, ← c.self.view_is, ← c.deref.ensures.value) (sym (not_found _ _ c.in_err-chunk.ensures.missing))

pub returns-in_err-chunk-clause-rows : goal.returns-in_err-chunk-clause-rows
returns-in_err-chunk-clause-rows g c = rw (← c.self.view_is, ← c.deref.ensures.value) (sym (remove_first-unfound _ _ c.in_err-chunk.ensures.missing))

pub find_key-requires-clause-rises : goal.find_key-requires-clause-rises
find_key-requires-clause-rises g c = rw (c.deref.ensures.value, ap (λ v. v.rows) c.self.view_is) c.requires
