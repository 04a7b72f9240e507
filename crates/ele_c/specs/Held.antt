-- What a handle owns.
use Rattle.std.specs.Prelude.{Bool, true, false}
use base.Fml.{Fml, ftrue}
use denote.RawPtr.{Ptr}
use Rattle.std.specs.contracts.impls.GlobalAllocator.TheImpl.{ghosts}
use Rattle.std.specs.Box.Ownership.{box_owns}
use Rattle.ele_embed.specs.contracts.Store.{the_row as store_row}

-- nothing if it is closed, and else the store at p and the right to free its memory
abbrev pub owns_store : Bool → Ptr → store_row.Denot → Fml
owns_store false p store = ftrue
owns_store true p store = box_owns (ghosts.dealloc_token (record { memory = record { seal = tt } })) store_row p store
