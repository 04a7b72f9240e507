-- What the calls do that take a store out as bytes, make one of bytes, and give one fresh numbers.
use Rattle.std.specs.Prelude.{◌≡◌, ◌⊎◌, ℕ, ℤ, pos, Bool, List, length, Option, Some, None}
use Rattle.ele_c_values.specs.Codes.{checkpoint_code, renewal_code}
use Rattle.ele_embed.specs.Checkpoints.{IsNotPutBack, PutsBack, begun, taken_out}
use Rattle.ele_embed.specs.Embedding.{Embedding, world_in}
use Rattle.ele_embed.specs.Renewal.{IsNotRenewed, renewed_store}
use Rattle.ele_embed.specs.declared.checkpoint.CheckpointError.{CheckpointError}
use Rattle.ele_keeper.specs.declared.renewal.RenewalError.{RenewalError}
use Rattle.ele_model.specs.World.{World}
use Rattle.ele_renewal.specs.Renewed.{IsClosed}

-- the text is the checkpoint of the store's world, and its length is given; or memory was refused, and all stays
abbrev pub TakesOut : Option Embedding → ℤ → Option Embedding → ℕ → ℕ → Type 0
TakesOut None code after old new = (code ≡ pos 64) × (after ≡ None) × (new ≡ old)
TakesOut (Some before) code after old new =
    ((code ≡ pos 0) × (after ≡ Some (taken_out before)) × (new ≡ length (taken_out before).answer))
    ⊎ ((code ≡ pos 1) × (after ≡ Some before) × (new ≡ old))

-- a store was made of the bytes; or it wasn't, for this reason, and the handle stays closed
pub record Begins (bytes : List ℕ) (history : Bool) (code : ℤ) (after : Option Embedding) : Type 0 where
  pub store : Embedding
  pub puts_back : PutsBack bytes (begun history) store
  pub code_is : code ≡ pos 0
  pub opened : after ≡ Some store

pub record BeginsNot (bytes : List ℕ) (history : Bool) (code : ℤ) (after : Option Embedding) : Type 0 where
  pub error : CheckpointError
  pub why : IsNotPutBack bytes history error
  pub code_is : code ≡ pos (checkpoint_code error)
  pub closed : after ≡ None

-- 65 of an open handle, whatever the bytes are, which leaves it
abbrev pub OpensFrom : List ℕ → Bool → Option Embedding → ℤ → Option Embedding → Type 0
OpensFrom bytes history None code after = Begins bytes history code after ⊎ BeginsNot bytes history code after
OpensFrom bytes history (Some store) code after = (code ≡ pos 65) × (after ≡ Some store)

-- the store has fresh numbers; or it is as it was, for this reason
pub record IsRenewed (before : Embedding) (code : ℤ) (after : Option Embedding) : Type 0 where
  pub closed : IsClosed (world_in before.state)
  pub code_is : code ≡ pos 0
  pub renewed : after ≡ Some (renewed_store before)

pub record Stays (before : Embedding) (code : ℤ) (after : Option Embedding) : Type 0 where
  pub error : RenewalError
  pub why : IsNotRenewed before.state error
  pub code_is : code ≡ pos (renewal_code error)
  pub same : after ≡ Some before

abbrev pub Renews : Option Embedding → ℤ → Option Embedding → Type 0
Renews None code after = (code ≡ pos 64) × (after ≡ None)
Renews (Some before) code after = IsRenewed before code after ⊎ Stays before code after

-- the fresh number is given, or 68 if there is none
abbrev pub GivesFresh : Option ℕ → ℤ → ℕ → ℕ → Type 0
GivesFresh None code old new = (code ≡ pos 68) × (new ≡ old)
GivesFresh (Some number) code old new = (code ≡ pos 0) × (new ≡ number)

-- a look at the number that something will have after a renewal; memory may be refused
abbrev pub LooksAcross : (World → Option ℕ) → Option Embedding → ℤ → Option Embedding → ℕ → ℕ → Type 0
LooksAcross across None code after old new = (code ≡ pos 64) × (after ≡ None) × (new ≡ old)
LooksAcross across (Some store) code after old new =
    (after ≡ Some store) × (GivesFresh (across (world_in store.state)) code old new ⊎ ((code ≡ pos 1) × (new ≡ old)))
