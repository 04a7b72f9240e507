-- The parts of a boxed handle own what a box at the same types owns.
use mir.Syntax.{impl, tnil, dnil}
use mathlib.Core.List.{[]}
use Rattle.std.proofs.BoxSteps.Form.{Bx}
use Rattle.std.specs.contracts.alloc.Global as heap
use Rattle.std.proofs.alloc.Global.TheLaws as heap_laws
use Rattle.std.specs.contracts.impls.GlobalAllocator.TheImpl.{ghosts, dict}
use Rattle.ele_c.specs.contracts.handle.Elephant as handle
use Rattle.ele_c.proofs.handle.Elephant.TheLaws as handle_laws

abbrev pub E : Bx
E = record { row = handle.the_row; laws = handle_laws.the_row_laws; al = record { row = heap.the_row; laws = heap_laws.the_row_laws; g = ghosts; d = dict; drops = impl [] tnil dnil } }
