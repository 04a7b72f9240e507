use Rattle.ele_rows.proofs.Words.{chunk_rises, dense_found, refl, slice_get_read}
use Rattle.ele_rows.proofs.seam.find_dense.Goals as goal

pub place_if_dense-requires : goal.place_if_dense-requires
place_if_dense-requires g c =
    let found = c.in_ok-get.ensures.lookup in
    let is = slice_get_read c.args.chunks.now _ c.in_ok-chunk.chunk c.in_ok-get.field-0.now refl found.3.0 found.1 in
    chunk_rises (λ row. (g.T.Headed.head row).key) c.args.key c.args.chunks.now c.in_ok-chunk.chunk _ c.requires is

pub returns : goal.returns
returns g c =
    let found = c.in_ok-get.ensures.lookup in
    let is = slice_get_read c.args.chunks.now _ c.in_ok-chunk.chunk c.in_ok-get.field-0.now refl found.3.0 found.1 in
    dense_found (λ row. (g.T.Headed.head row).key) c.args.key c.args.chunks.now c.in_ok-chunk.chunk _ _ c.requires is c.in_ok-place.ensures
