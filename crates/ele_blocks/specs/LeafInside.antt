-- Where the slots of a leaf are. No public clause cites this module.
use Rattle.std.specs.Prelude.{List, [], ◌∷◌}
use Rattle.ele_blocks.specs.declared.slot.Slot.{Slot}
use Rattle.ele_blocks.specs.declared.leaf.Slots.{Slots}
use Rattle.ele_blocks.specs.declared.leaf.Slots.TheVariants.{One, Many}

abbrev pub slots_in_leaf : Slots → List Slot
slots_in_leaf (One slot) = slot ∷ []
slots_in_leaf (Many slots) = slots.value.items
