use Rattle.std.proofs.lemmas.List.{length-map}
use Rattle.ele_rows.proofs.Headings.{heads_parted, point_shown}
use Rattle.ele_rows.proofs.Words.{IsPartitionPoint-from_clause, ap, arith, rules, ◌∙◌}
use Rattle.ele_rows.proofs.chunk.Chunk.seam.Goals as goal

pub returns : goal.returns
returns g c =
    let q = g.C.Cut.before c.args.cut.now in
    let head = g.T.Headed.head in
    let xs = c.self.inside.rows.items in
    let column = c.deref.ensures.value ∙ c.self.invariant.heads in
    let parted = heads_parted head q xs (rw (ap (λ v. v.items) c.self.view_is) c.requires) in
    let point = IsPartitionPoint-from_clause q _ _ c.partition_point.ensures.partitioned (rw column parted) (λ a r f called. search rules) in
    let bound = rw column at c.partition_point.ensures.bound in
    rw (← c.self.view_is) (record { bound = omega (arith, bound, length-map xs head); point = point_shown head q xs _ bound (rw column at point) })
