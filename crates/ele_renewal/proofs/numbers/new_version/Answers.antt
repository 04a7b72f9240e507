use Rattle.std.proofs.lemmas.List.Sorted.{IsPartitionPoint-from_clause}
use Rattle.ele_renewal.specs.Writers.{comes_before}
use Rattle.ele_renewal.proofs.Searches.{before_split, cut_count, files_parted, versions_parted}
use Rattle.ele_renewal.proofs.Words.{VersionRow, arith, ltb, rules}
use Rattle.ele_renewal.proofs.numbers.new_version.Goals as goal

pub overflow_sub-result : goal.overflow_sub-result
overflow_sub-result c =
    let rows = c.args.rows.now in
    let first = IsPartitionPoint-from_clause (λ (row : VersionRow). ltb row.file c.args.file) rows c.partition_point-first.result c.partition_point-first.ensures.partitioned (files_parted c.args.file rows c.requires) (λ a r f called. search rules) in
    let place = IsPartitionPoint-from_clause (comes_before c.args.file c.args.number) rows c.partition_point-place.result c.partition_point-place.ensures.partitioned (versions_parted c.args.file c.args.number rows c.requires) (λ a r f called. search rules) in
    omega (arith, cut_count (λ (row : VersionRow). ltb row.file c.args.file) rows c.partition_point-first.result c.partition_point-first.ensures.bound first, cut_count (comes_before c.args.file c.args.number) rows c.partition_point-place.result c.partition_point-place.ensures.bound place, before_split c.args.file c.args.number rows)

pub returns-clause-number : goal.returns-clause-number
returns-clause-number c =
    let rows = c.args.rows.now in
    let first = IsPartitionPoint-from_clause (λ (row : VersionRow). ltb row.file c.args.file) rows c.partition_point-first.result c.partition_point-first.ensures.partitioned (files_parted c.args.file rows c.requires) (λ a r f called. search rules) in
    let place = IsPartitionPoint-from_clause (comes_before c.args.file c.args.number) rows c.partition_point-place.result c.partition_point-place.ensures.partitioned (versions_parted c.args.file c.args.number rows c.requires) (λ a r f called. search rules) in
    omega (arith, cut_count (λ (row : VersionRow). ltb row.file c.args.file) rows c.partition_point-first.result c.partition_point-first.ensures.bound first, cut_count (comes_before c.args.file c.args.number) rows c.partition_point-place.result c.partition_point-place.ensures.bound place, before_split c.args.file c.args.number rows)
