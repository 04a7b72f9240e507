use Rattle.ele_rows.proofs.Words.{ap, find_last-parted, place_split, sym, ◌∙◌, ◌≡◌}
use Rattle.ele_rows.proofs.chunks.Chunks.last_at_seam.Goals as goal

pub returns : goal.returns
returns g c =
    let cs = c.deref.result.now in
    let i = c.seek-chunk.result.0 in
    let j = c.seek-chunk.result.1 in
    let same : c.deref-2.result.now ≡ cs = c.deref-2.ensures.value ∙ sym c.deref.ensures.value in
    rw (← c.self.view_is, ← c.deref.ensures.value, place_split cs i j, find_last-parted _ _ _ c.seek-chunk.ensures.passes c.seek-chunk.ensures.fails, ← same) c.row_before.ensures

pub seek-chunk-requires-clause-sinks : goal.seek-chunk-requires-clause-sinks
seek-chunk-requires-clause-sinks g c = rw (c.deref.ensures.value, ap (λ v. v.rows) c.self.view_is) c.requires
