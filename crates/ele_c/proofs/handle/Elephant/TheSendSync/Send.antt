-- A handle may go to another thread: the store may, and what frees its block names no key.
use mathlib.Core.Bool.{Bool, true, false}
use mir.Raw.{raw}
use base.Fraction.{full_share}
use base.Shift.{Keyless}
use denote.Exit.{Exit, unchanged, leaves, hidden, under}
use denote.Memory.{lone}
use denote.RawPtr.{Ptr, block_ptr, null_ptr, lies_at}
use denote.Struct.Struct.{exits_of}
use denote.Struct.Owning.{shape, fields, to}
use denote.Param.Send.{IsSend, AllSend, Quiet, part_keyless, owning_send, struct_send, sendable}
use Rattle.std.proofs.Crossing.{frees}
use Rattle.ele_embed.specs.contracts.Store as store
use Rattle.ele_embed.proofs.Store.TheSendSync.{the_send as store_send}
use Rattle.ele_c.specs.Held.{owns_store}
use Rattle.ele_c.specs.contracts.handle.Elephant.{the_row, the_type}

quiet : {D X : Type 0} (view : D → X) (e : Exit X) → Quiet e → Quiet (hidden (under view e))
quiet view unchanged q = λ x w. tt
quiet view (leaves L l S s r) q = λ d. q (view d)

lies : (p : Ptr) (x : store.the_row.Denot) → Keyless (lies_at store.the_row full_share p x)
lies (block_ptr b o) x = part_keyless store.the_row store_send full_share x b o
lies null_ptr x = tt

crosses : (is_full : Bool) (p : Ptr) (x : store.the_row.Denot) → Keyless (owns_store is_full p x)
crosses false p x = tt
crosses true p x = (lies p x, frees.frees (record { memory = record { seal = tt } }) (raw (lone store.the_row.mir)) p)

pub send : IsSend the_row
send =
    let all : AllSend (fields the_type) = (search sendable, (search sendable, tt)) in
    owning_send the_type all (λ d. crosses d.is_full d.at d.held) (λ k. quiet (to the_type) (exits_of k (fields the_type)) ((struct_send (shape the_type) all).leaving k))
