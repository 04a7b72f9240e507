use Rattle.ele_names.proofs.Lemmas.{false, sym, ap, arith, option_map_or, value_at, is_of, names_of, kept_without, row_known, at_last, none_past, without_last}
use Rattle.ele_names.proofs.names.Names.take_back.Goals as goal

pub unreachable-requires-in_default-number : goal.unreachable-requires-in_default-number
unreachable-requires-in_default-number c =
    let at = at_last c.in-Some.serial c.in-Some.row _ _ c.in-Some.ensures.some c.in-Some.ensures.below in
    absurd (omega (arith, row_known _ c.self.inside.table c.self.invariant.is_table c.in-Some.serial c.in-Some.row at, c.in_default-number.ensures.none))

pub invariant_of-self : goal.invariant_of-self
invariant_of-self c =
    let at = at_last c.in-Some.serial c.in-Some.row _ _ c.in-Some.ensures.some c.in-Some.ensures.below in
    kept_without c.self.inside c.self.invariant c.in-Some.serial c.in-Some.row at _ _ c.leave-2.ensures.names (c.leave-2.ensures.listed c.self.invariant.listed)
    (sym (without_last c.in-Some.serial c.in-Some.row _ _ c.in-Some.ensures.some c.in-Some.ensures.below))
    (c.leave.ensures.placed (names_of c.self.inside.live_names) (value_at c.self.inside.table.rows.entries) (sym c.in-Some-number.ensures.some.0) at
    (λ f k _ over. ap (λ o. option_map_or (is_of f) o false) (none_past c.in-Some.serial c.in-Some.row _ _ c.in-Some.ensures.some c.in-Some.ensures.below k over))) c.leave-2.ensures.counted c.leave-2.ensures.numbered
    c.leave.ensures.live
