use Rattle.ele_names.proofs.Lemmas.{Some, arith, Ok, slice_cmp, nat_cmp, AllocError, nat_list_cmp_total, items_from_collect, YieldsList-from_rest, exact_bytes, target_at, rows_of, names_of, is_left, list_begun, list_first, list_next, list_second, list_smaller, list_stands, told_all, told_one}
use Rattle.ele_names.proofs.names.Names.list.Goals as goal

pub loop-next-init : goal.loop-next-init
loop-next-init c = (
  list_first c.self.inside c.self.invariant c.args.moment c.args.directory c.newest-next.result (rw c.directory.view_is at c.newest-next.ensures),
  rw c.new-found.ensures.empty (list_begun c.self.inside c.self.invariant c.args.moment c.args.directory c.newest-next.result (rw c.directory.view_is at c.newest-next.ensures)),
)

pub unreachable-requires : goal.unreachable-requires
unreachable-requires c = list_stands c.self.inside c.self.invariant c.args.moment c.args.directory c.in-Some.number (rw c.in-Some.is at c.loop-next.invariant.0) c.in_default-name.ensures

pub loop-next-smaller : goal.loop-next-smaller
loop-next-smaller c = rw c.in-Some.is (let less = list_smaller c.self.inside c.self.invariant c.args.moment c.args.directory c.in-Some.number c.in-Some-name.name c.in-Some-name.ensures (rw c.in-Some.is at c.loop-next.invariant.0) c.older-next.result c.older-next.ensures in grind (arith, less))

pub loop-next-preserved : goal.loop-next-preserved
loop-next-preserved c =
    let d = c.args.directory in
    let names = names_of c.self.inside.live_names in
    let name = c.in-Some-name.name in
    let first = rw c.in-Some.is at c.loop-next.invariant.0 in
    let told = rw c.in-Some.is at c.loop-next.invariant.1 in (
      list_second c.self.inside c.self.invariant c.args.moment d c.in-Some.number name c.in-Some-name.ensures first c.older-next.result c.older-next.ensures,
      rw c.in_ok-put_some.ensures (told_one (slice_cmp nat_cmp) (target_at (rows_of c.self.inside.table) c.args.moment d) nat_list_cmp_total exact_bytes
          (is_left names d (Some c.in-Some.number)) (is_left names d c.older-next.result) c.loop-next.found.entries name.1 c.at_by-target.result
          (list_next c.self.inside c.self.invariant c.args.moment d c.in-Some.number name c.in-Some-name.ensures first c.older-next.result c.older-next.ensures) (rw (← c.self.view_is) at c.at_by-target.ensures) told),
    )

pub returns-clause-found : goal.returns-clause-found
returns-clause-found c =
    let told = rw c.in_default.is at c.loop-next.invariant.1 in
    rw (← c.self.view_is, items_from_collect {E = AllocError} (Ok c.in_ok-collect.field-0) c.in_ok-collect.ensures.ran (YieldsList-from_rest c.loop-next.found.entries (cc)))
    (told_all (slice_cmp nat_cmp) (target_at (rows_of c.self.inside.table) c.args.moment c.args.directory) c.loop-next.found.entries told)
