use Rattle.ele_lists.proofs.Keys.{rises-parted}
use Rattle.std.proofs.lemmas.List.Sorted.{IsPartitionPoint-from_clause}
use Rattle.ele_renewal.proofs.Searches.{cut_count}
use Rattle.ele_renewal.proofs.Words.{DirectoryRow, arith, ltb, rules}
use Rattle.ele_renewal.proofs.numbers.new_directory.Goals as goal

pub returns : goal.returns
returns c =
    let rows = c.args.rows.now in
    let cut = IsPartitionPoint-from_clause (λ (row : DirectoryRow). ltb row.id c.args.id) rows c.partition_point-place.result c.partition_point-place.ensures.partitioned (rises-parted (λ (row : DirectoryRow). row.id) rows c.args.id c.requires) (λ a r f called. search rules) in
    omega (arith, cut_count (λ (row : DirectoryRow). ltb row.id c.args.id) rows c.partition_point-place.result c.partition_point-place.ensures.bound cut)
