use Rattle.std.proofs.Common.{Bool}
use Rattle.ele_rows.proofs.Words.{all-weaker, ap, false, find-parted, first_behind, not, place_split, sym, true, ◌∙◌, ◌≡◌}
use Rattle.ele_rows.proofs.chunks.Chunks.first_behind.Goals as goal

pub returns : goal.returns
returns g c =
    let p : g.row.T.Denot → Bool = λ row. g.C.Cut.before c.args.cut.now (g.T.Headed.head row) in
    let cs = c.deref.result.now in
    let i = c.seek-chunk.result.0 in
    let j = c.seek-chunk.result.1 in
    let seam = c.seek-chunk.ensures in
    let same : c.deref-2.result.now ≡ cs = c.deref-2.ensures.value ∙ sym c.deref.ensures.value in
    let fails = all-weaker _ (λ x. not (p x) ≡ false) _ (λ x e. ap not e) seam.passes in
    let passes = all-weaker _ (λ x. not (p x) ≡ true) _ (λ x e. ap not e) seam.fails in
    rw (← c.self.view_is, ← c.deref.ensures.value, place_split cs i j, find-parted (λ x. not (p x)) _ _ fails passes, first_behind cs i j seam.within, ← same) c.row_at.ensures

pub seek-chunk-requires-clause-sinks : goal.seek-chunk-requires-clause-sinks
seek-chunk-requires-clause-sinks g c = rw (c.deref.ensures.value, ap (λ v. v.rows) c.self.view_is) c.requires
