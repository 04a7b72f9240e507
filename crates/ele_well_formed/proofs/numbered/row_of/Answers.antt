use Rattle.ele_well_formed.proofs.Words.{IsPartitionPoint-from_clause, arith, end-missing, find-none, find-position, ltb, place-found, place-missing, rises-parted, rules, stands_by, sym}
use Rattle.ele_well_formed.proofs.numbered.row_of.Goals as goal

pub returns-in_err-row : goal.returns-in_err-row
returns-in_err-row g c =
    let cut = IsPartitionPoint-from_clause (λ row. ltb (g.T.Numbered.number row) c.args.number) _ _ c.partition_point-at.ensures.partitioned (rises-parted g.T.Numbered.number _ c.args.number c.requires) (λ a r f called. search rules) in
    rw c.from_residual.ensures (sym (find-none (stands_by g.T.Numbered.number c.args.number) _ (end-missing g.T.Numbered.number _ c.args.number _ cut (search rules))))

pub returns-then-number : goal.returns-then-number
returns-then-number g c =
    let cut = IsPartitionPoint-from_clause (λ row. ltb (g.T.Numbered.number row) c.args.number) _ _ c.partition_point-at.ensures.partitioned (rises-parted g.T.Numbered.number _ c.args.number c.requires) (λ a r f called. search rules) in
    let got = c.in_ok-row.ensures.lookup in
    let found = find-position (stands_by g.T.Numbered.number c.args.number) _ _ c.in_ok-row.row.now (place-found g.T.Numbered.number _ c.args.number _ cut _ c.requires got.3.0 got.3.1 (grind arith)) in
    grind (arith, found, got.3.1 c.in_ok-row.row.now)

pub returns-else-number : goal.returns-else-number
returns-else-number g c =
    let cut = IsPartitionPoint-from_clause (λ row. ltb (g.T.Numbered.number row) c.args.number) _ _ c.partition_point-at.ensures.partitioned (rises-parted g.T.Numbered.number _ c.args.number c.requires) (λ a r f called. search rules) in
    let got = c.in_ok-row.ensures.lookup in
    sym (find-none (stands_by g.T.Numbered.number c.args.number) _ (place-missing g.T.Numbered.number _ c.args.number _ cut _ c.requires got.3.0 got.3.1 (grind arith)))
