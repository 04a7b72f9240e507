-- Where the bytes of a block are. No public clause cites this module.
use Rattle.std.specs.Prelude.{ℕ, List}
use Rattle.ele_blocks.specs.declared.block.Bytes.{Bytes}
use Rattle.ele_blocks.specs.declared.block.Bytes.TheVariants.{Short, Long}

abbrev pub bytes_in : Bytes → List ℕ
bytes_in (Short short) = short
bytes_in (Long long) = long.items
