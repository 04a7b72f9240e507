-- What contracts see of a shared object and of a seat.
use Rattle.std.specs.Prelude.{◌≡◌, ℕ, ◌+◌, List, length}
use Rattle.atomic_table.specs.Seated.{TableId}
use Rattle.ele_history.specs.Legal.{IsLegal}
use Rattle.ele_history.specs.Past.{Past, count_of, world_of}
use Rattle.ele_shared_history.specs.declared.ledger.Call.{Call}
use Rattle.ele_shared_history.specs.Running.{entries_of, own_of, StartsWith}

-- which object it is, and its history at the start
pub record Object : Type 0 where
  pub name : TableId
  pub opening : Past

pub record Knowledge : Type 0 where
  pub object : Object
  pub numbers : List ℕ
  -- a prefix of the shared history
  pub view : List Call
  -- the calls made under these numbers
  pub own : List Call
  -- these numbers, and those of some seats made before it
  pub known : List ℕ

-- how many events had been published
abbrev pub count_seen : Knowledge → ℕ
count_seen k = count_of k.object.opening + length k.view

-- what is true of every seat: its view is legal after the history at the start, and has exactly its own calls under its numbers
pub record IsTrue (k : Knowledge) : Type 0 where
  pub legal : IsLegal (world_of k.object.opening) (entries_of k.view)
  pub own : own_of k.numbers k.view ≡ k.own

-- the seat may have seen more, and nothing else changed
pub record Looked (before after : Knowledge) : Type 0 where
  pub object : after.object ≡ before.object
  pub numbers : after.numbers ≡ before.numbers
  pub known : after.known ≡ before.known
  pub own : after.own ≡ before.own
  pub view : StartsWith after.view before.view
