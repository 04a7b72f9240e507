use Rattle.std.proofs.lemmas.List.Sorted.{IsPartitionPoint-from_clause}
use Rattle.std.proofs.lemmas.Option.{slice_get_past, slice_get_read}
use Rattle.ele_renewal.specs.Writers.{comes_before}
use Rattle.ele_renewal.proofs.Searches.{version_at_cut, versions_parted}
use Rattle.ele_renewal.proofs.Words.{None, Some, refl, rules, slice_get, sym, ◌∙◌, ◌≡◌}
use Rattle.ele_renewal.proofs.across.is_held.Goals as goal

pub returns-in-Some : goal.returns-in-Some
returns-in-Some c =
    let rows = c.args.rows.now in
    let cut = IsPartitionPoint-from_clause (comes_before c.args.file c.args.number) rows c.partition_point-place.result c.partition_point-place.ensures.partitioned (versions_parted c.args.file c.args.number rows c.requires) (λ a r f called. search rules) in
    let got = c.in-Some.ensures.lookup in
    let there : slice_get rows c.partition_point-place.result ≡ Some c.in-Some.row.now = slice_get_read rows _ _ c.in-Some.row.now refl got.3.0 (got.3.1 c.in-Some.row.now) in
    c.is_version.ensures ∙ sym (rw there at (version_at_cut c.args.file c.args.number rows c.partition_point-place.result c.requires cut))

pub returns-in-None : goal.returns-in-None
returns-in-None c =
    let rows = c.args.rows.now in
    let cut = IsPartitionPoint-from_clause (comes_before c.args.file c.args.number) rows c.partition_point-place.result c.partition_point-place.ensures.partitioned (versions_parted c.args.file c.args.number rows c.requires) (λ a r f called. search rules) in
    let none : slice_get rows c.partition_point-place.result ≡ None = slice_get_past rows c.partition_point-place.result c.in-None.ensures.lookup.3 in
    sym (rw none at (version_at_cut c.args.file c.args.number rows c.partition_point-place.result c.requires cut))
