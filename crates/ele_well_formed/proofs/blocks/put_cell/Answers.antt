use Rattle.ele_well_formed.proofs.Words.{None, Some, arith, bytes_eq-Decides, nat_tests, refl, sym, ◌≡◌}
use Rattle.std.specs.BTreeMap.{get}
use Rattle.ele_well_formed.specs.Known.{place_cmp}
use Rattle.ele_well_formed.proofs.KnownBytes.{differs_if, puts_new}
use Rattle.ele_well_formed.proofs.blocks.put_cell.Goals as goal

pub returns-in_default-clause-same : goal.returns-in_default-clause-same
returns-in_default-clause-same c =
    let p = c.args.place in
    let got : get place_cmp c.args.known.now p ≡ None = grind (arith, c.get.ensures.value, c.in_default.is, c.in_default.ensures.value) in
    puts_new c.args.known.now c.insert.new.self p.0 p.1 p.2 c.args.bytes (rw got refl) (λ q. c.in_ok-_none.ensures.updates.0 q)

pub returns-clause-differ : goal.returns-clause-differ
returns-clause-differ c =
    let p = c.args.place in
    let got : get place_cmp c.args.known.now p ≡ Some c.in-Some.there.now = sym c.in-Some.ensures.value in
    differs_if c.args.known.now (record { file = p.0; slot = p.1; writer = p.2 }) c.args.bytes.now c.in-Some.there.now.now c.eq.result (λ f same. absurd (grind (arith, nat_tests, bytes_eq-Decides, c.eq.ensures, f, same))) (rw got refl)
