use Rattle.ele_rows.proofs.Words.{ap, arith, not_found, sym}
use Rattle.ele_rows.proofs.chunks.Chunks.get.Goals as goal

pub returns-in_err-chunk : goal.returns-in_err-chunk
returns-in_err-chunk g c = rw (c.from_residual.ensures, ← c.self.view_is, ← c.deref.ensures.value) (sym (not_found _ _ c.in_err-chunk.ensures.missing))

pub returns : goal.returns
returns g c = grind (arith, c.row_at.ensures, c.self.view_is, c.deref.ensures.value, c.deref-2.ensures.value, c.in_ok-chunk.ensures.found.found)

pub find_key-requires-clause-rises : goal.find_key-requires-clause-rises
find_key-requires-clause-rises g c = rw (c.deref.ensures.value, ap (λ v. v.rows) c.self.view_is) c.requires
