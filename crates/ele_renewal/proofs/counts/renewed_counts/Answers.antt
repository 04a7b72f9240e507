use Rattle.ele_renewal.proofs.Ranks.{filter-within}
use Rattle.ele_renewal.proofs.Words.{ap, arith, has_lost_last, length}
use Rattle.ele_renewal.proofs.counts.renewed_counts.Goals as goal

pub overflow_add-versions : goal.overflow_add-versions
overflow_add-versions c =
    let w = c.args.flat.now in
    let counted = c.requires.formed.counted in
    omega (arith, filter-within (has_lost_last w) w.files, ap length c.as_slice.ensures, c.lost_versions.ensures, counted.version_rows, counted.versions_made, counted.file_rows, counted.files_made, c.lemma_within.ensures.versions, c.lemma_within.ensures.files)
