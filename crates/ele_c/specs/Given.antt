-- A handle on the heap.
use base.Fml.{Fml, ftrue}
use denote.RawPtr.{Ptr, block_ptr, null_ptr}
use Rattle.std.specs.Prelude.{false}
use Rattle.std.specs.contracts.impls.GlobalAllocator.TheImpl.{ghosts}
use Rattle.std.specs.Box.Ownership.{box_owns}
use Rattle.ele_c.specs.contracts.handle.Elephant.{the_row}
use Rattle.ele_embed.specs.Embedding.{fresh_plain}
use Rattle.ele_model.specs.Bounds.{largest_bounds}

-- the handle at p, with the store that it owns if it is open, and the right to free its memory
abbrev pub handle_at : Ptr → the_row.Denot → Fml
handle_at p elephant = box_owns (ghosts.dealloc_token (record { memory = record { seal = tt } })) the_row p elephant

-- a closed handle; its store says nothing
abbrev pub closed_handle : the_row.Denot
closed_handle = record { at = null_ptr; is_full = false; held = fresh_plain largest_bounds }

-- such a handle at p, or nothing at null
abbrev pub given : Ptr → Fml
given (block_ptr b o) = handle_at (block_ptr b o) closed_handle
given null_ptr = ftrue
