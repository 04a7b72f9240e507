-- Where the numbers of leaves are. No public clause cites this module.
use Rattle.std.specs.Prelude.{ℕ, [], ◌∷◌, vec_capacity}
use Rattle.ele_blocks.specs.LeafList.{Numbers}
use Rattle.ele_blocks.specs.declared.leaf_list.Leaves.{Leaves}
use Rattle.ele_blocks.specs.declared.leaf_list.Leaves.TheVariants.{Empty, One, Many}

abbrev pub numbers_in : Leaves → Numbers
numbers_in (Empty size) = record { size = size; items = []; room = 1 }
numbers_in (One size leaf) = record { size = size; items = leaf ∷ []; room = 1 }
numbers_in (Many size list) = record { size = size; items = list.value.items; room = vec_capacity list.value }
