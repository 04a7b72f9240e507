use Rattle.ele_blocks.proofs.Lemmas.{arith, length, List, names_from, slots-count, slots_of, sym, take_all, ◌++◌, ◌∙◌, ◌≤◌, Slot, subst}
use Rattle.ele_blocks.proofs.Founds.{find_more, no_pair, slot_got}
use Rattle.ele_blocks.specs.Placed.{Finds}
use Rattle.ele_blocks.proofs.placed.PlacedBlocks.add.Goals as goal

pub unreachable-requires : goal.unreachable-requires
unreachable-requires c = no_pair (slots_of c.args.store.now c.args.map.now) c.loop-slot.slot (omega (arith, slots-count c.args.store.now c.args.map.now c.requires.whole, c.loop-slot-test.true, c.slots-slot-end.ensures)) (sym c.cell.ensures.cell ∙ c.in_default.is)

pub loop-slot-preserved : goal.loop-slot-preserved
loop-slot-preserved c = λ file names finds.
    find_more file c.loop-slot.slot (slots_of c.args.store.now c.args.map.now) _ _ (slot_got _ _ c.in-Some.ensures.cell) names c.loop-slot.self c.put.new.self c.in_ok-put.ensures (c.loop-slot.invariant file names finds)

pub returns : goal.returns
returns c = λ file names finds.
    let all : length (slots_of c.args.store.now c.args.map.now) ≤ c.loop-slot.slot = omega (arith, slots-count c.args.store.now c.args.map.now c.requires.whole, c.loop-slot-test.false, c.slots-slot-end.ensures) in
    subst (λ (slots : List Slot). Finds c.loop-slot.self file (names_from file 0 slots ++ names)) (take_all c.loop-slot.slot (slots_of c.args.store.now c.args.map.now) all) (c.loop-slot.invariant file names finds)
