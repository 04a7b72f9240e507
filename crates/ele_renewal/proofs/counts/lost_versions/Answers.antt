use Rattle.std.proofs.Common.{length-take}
use Rattle.ele_renewal.proofs.Ranks.{filter-within}
use Rattle.ele_renewal.proofs.Words.{arith, has_lost_last, take}
use Rattle.ele_renewal.proofs.counts.lost_versions.Goals as goal

pub overflow_add-lost : goal.overflow_add-lost
overflow_add-lost c =
    let files = c.as_slice-files.result.now in
    omega (arith, filter-within (has_lost_last c.args.flat.now) (take c.loop-file.file-index files), length-take c.loop-file.file-index files)
