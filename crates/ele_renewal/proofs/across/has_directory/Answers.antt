use Rattle.ele_lists.proofs.Keys.{rises-parted}
use Rattle.std.proofs.lemmas.List.Sorted.{IsPartitionPoint-from_clause}
use Rattle.std.proofs.lemmas.Option.{slice_get_past, slice_get_read}
use Rattle.ele_renewal.proofs.Searches.{key_at_cut}
use Rattle.ele_renewal.proofs.Words.{DirectoryRow, None, Some, ltb, refl, rules, slice_get, sym, ◌∙◌, ◌≡◌}
use Rattle.ele_renewal.proofs.across.has_directory.Goals as goal

pub returns-in-Some : goal.returns-in-Some
returns-in-Some c =
    let rows = c.args.rows.now in
    let cut = IsPartitionPoint-from_clause (λ (row : DirectoryRow). ltb row.id c.args.id) rows c.partition_point-place.result c.partition_point-place.ensures.partitioned (rises-parted (λ (row : DirectoryRow). row.id) rows c.args.id c.requires) (λ a r f called. search rules) in
    let got = c.in-Some.ensures.lookup in
    let there : slice_get rows c.partition_point-place.result ≡ Some c.in-Some.row.now = slice_get_read rows _ _ c.in-Some.row.now refl got.3.0 (got.3.1 c.in-Some.row.now) in
    c.is_directory.ensures ∙ sym (rw there at (key_at_cut (λ (row : DirectoryRow). row.id) c.args.id rows c.partition_point-place.result c.requires cut))

pub returns-in-None : goal.returns-in-None
returns-in-None c =
    let rows = c.args.rows.now in
    let cut = IsPartitionPoint-from_clause (λ (row : DirectoryRow). ltb row.id c.args.id) rows c.partition_point-place.result c.partition_point-place.ensures.partitioned (rises-parted (λ (row : DirectoryRow). row.id) rows c.args.id c.requires) (λ a r f called. search rules) in
    let none : slice_get rows c.partition_point-place.result ≡ None = slice_get_past rows c.partition_point-place.result c.in-None.ensures.lookup.3 in
    sym (rw none at (key_at_cut (λ (row : DirectoryRow). row.id) c.args.id rows c.partition_point-place.result c.requires cut))
