use Rattle.std.proofs.Common.{Bool}
use Rattle.ele_rows.proofs.Words.{IsPartitionPoint-from_clause, Some, all-take, arith, chunk_ends, chunks_sink, false, here_sinks, length, refl, rules, seam_here, seam_past, sinks-parted, slice_get, slice_get_read, ◌≡◌}
use Rattle.ele_rows.proofs.seam.seek.Goals as goal

pub seam-requires : goal.seam-requires
seam-requires g c =
    let p : g.row.T.Denot → Bool = λ row. g.C.Cut.before c.args.cut.now (g.T.Headed.head row) in
    let cs = c.args.chunks.now in
    let i = c.partition_point-chunk.result in
    let point = IsPartitionPoint-from_clause (chunk_ends p) cs i c.partition_point-chunk.ensures.partitioned (sinks-parted (chunk_ends p) cs (chunks_sink p cs c.requires.filled c.requires.sinks)) (λ a r q k. search rules) in
    let found = c.in-Some.ensures.lookup in
    let here = c.in-Some.here.now in
    here_sinks p cs i c.requires.filled c.requires.sinks c.partition_point-chunk.ensures.bound (all-take _ cs i point.0) here (slice_get_read cs (length cs) i here refl found.3.0 found.1)

pub returns-in-Some : goal.returns-in-Some
returns-in-Some g c =
    let p : g.row.T.Denot → Bool = λ row. g.C.Cut.before c.args.cut.now (g.T.Headed.head row) in
    let cs = c.args.chunks.now in
    let i = c.partition_point-chunk.result in
    let point = IsPartitionPoint-from_clause (chunk_ends p) cs i c.partition_point-chunk.ensures.partitioned (sinks-parted (chunk_ends p) cs (chunks_sink p cs c.requires.filled c.requires.sinks)) (λ a r q k. search rules) in
    let found = c.in-Some.ensures.lookup in
    let here = c.in-Some.here.now in
    let is : slice_get cs i ≡ Some here = slice_get_read cs (length cs) i here refl found.3.0 found.1 in
    let fails : chunk_ends p here ≡ false = rw found.1 (point.1 i here (omega arith) found.3.0) in
    seam_here p cs i c.requires.filled c.requires.sinks c.partition_point-chunk.ensures.bound (all-take _ cs i point.0) here is fails c.seam.result c.seam.ensures.bound c.seam.ensures.point

pub returns-in-None : goal.returns-in-None
returns-in-None g c =
    let p : g.row.T.Denot → Bool = λ row. g.C.Cut.before c.args.cut.now (g.T.Headed.head row) in
    let cs = c.args.chunks.now in
    let i = c.partition_point-chunk.result in
    let point = IsPartitionPoint-from_clause (chunk_ends p) cs i c.partition_point-chunk.ensures.partitioned (sinks-parted (chunk_ends p) cs (chunks_sink p cs c.requires.filled c.requires.sinks)) (λ a r q k. search rules) in
    seam_past p cs i c.requires.filled c.requires.sinks c.partition_point-chunk.ensures.bound (all-take _ cs i point.0) c.in-None.ensures.lookup.3
