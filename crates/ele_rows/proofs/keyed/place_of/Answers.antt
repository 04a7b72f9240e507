use Rattle.ele_rows.proofs.Words.{IsPartitionPoint-from_clause, arith, end-gap, end-missing, ltb, place-found, place-gap, place-missing, rises-parted, rules}
use Rattle.ele_rows.proofs.keyed.place_of.Goals as goal

pub returns-in-Some-get-clause-found : goal.returns-in-Some-get-clause-found
returns-in-Some-get-clause-found g c =
    let cut = IsPartitionPoint-from_clause (λ row. ltb (g.T.Keyed.key row) c.args.key) _ _ c.partition_point-at.ensures.partitioned (rises-parted g.T.Keyed.key _ c.args.key c.requires) (λ a r f called. search rules) in
    let got = c.in-Some-get.ensures.lookup in
    place-found g.T.Keyed.key _ c.args.key _ cut _ c.requires got.3.0 got.3.1 (grind arith)

pub returns-in_default-get : goal.returns-in_default-get
returns-in_default-get g c =
    let cut = IsPartitionPoint-from_clause (λ row. ltb (g.T.Keyed.key row) c.args.key) _ _ c.partition_point-at.ensures.partitioned (rises-parted g.T.Keyed.key _ c.args.key c.requires) (λ a r f called. search rules) in
    let got = c.in-Some-get.ensures.lookup in
    record { found = tt; missing = place-missing g.T.Keyed.key _ c.args.key _ cut _ c.requires got.3.0 got.3.1 (grind arith); gap = place-gap g.T.Keyed.key _ c.args.key _ cut _ c.requires got.3.0 got.3.1 (grind arith) }

pub returns-in_default-get-2 : goal.returns-in_default-get-2
returns-in_default-get-2 g c =
    let cut = IsPartitionPoint-from_clause (λ row. ltb (g.T.Keyed.key row) c.args.key) _ _ c.partition_point-at.ensures.partitioned (rises-parted g.T.Keyed.key _ c.args.key c.requires) (λ a r f called. search rules) in
    record { found = tt; missing = end-missing g.T.Keyed.key _ c.args.key _ cut (search rules); gap = end-gap g.T.Keyed.key _ c.args.key _ cut (search rules) c.partition_point-at.ensures.bound }
