use Rattle.ele_groups.proofs.Basics.{ap, arith, is_some, nat_tests, nil_from_length, sym}
use Rattle.ele_groups.proofs.Members.{any_without}
use Rattle.ele_groups.proofs.memberships.Memberships.remove.Goals as goal

pub returns-then-is_empty : goal.returns-then-is_empty
returns-then-is_empty c =
    let left = c.take_from.new.memberships in
    let updates = (c.get_mut.follows.holds left).3 (ap is_some (sym c.in-Some.ensures.value)) in
    let none = nil_from_length left.items (grind (arith, nat_tests, left.ok.0, c.if-is_empty.ensures)) in
    λ q n. grind (arith, nat_tests, updates.0 q, c.remove.ensures.updates.0 q, none, c.take_from.ensures, c.in-Some.ensures.value, any_without c.args.name.now n c.in-Some.memberships.now.items)

pub returns-else-is_empty : goal.returns-else-is_empty
returns-else-is_empty c =
    let updates = (c.get_mut.follows.holds c.take_from.new.memberships).3 (ap is_some (sym c.in-Some.ensures.value)) in
    λ q n. grind (arith, nat_tests, updates.0 q, c.take_from.ensures, c.in-Some.ensures.value, any_without c.args.name.now n c.in-Some.memberships.now.items)
