-- A store's world as bytes, and the stores that are made of them.
use Rattle.std.specs.Prelude.{◌≡◌, ℕ, ◌<◌, Bool, true, List, None, if◌then◌else◌}
use Rattle.ele_checkpoint.specs.Checkpoint.{checkpoint}
use Rattle.ele_checkpoint.specs.Fits.{IsFlat}
use Rattle.ele_embed.specs.Embedding.{Embedding, Plain, Recorded, opened, world_in}
use Rattle.ele_embed.specs.declared.checkpoint.CheckpointError.{CheckpointError}
use Rattle.ele_embed.specs.declared.checkpoint.CheckpointError.TheVariants.{Damaged, Fault, Stop}
use Rattle.ele_history.specs.Past.{begun_from}
use Rattle.ele_model.specs.Start.{IsStart}
use Rattle.ele_model.specs.World.{World}
use Rattle.ele_model.specs.declared.refusal.Stop.TheVariants.{HistoryFull, NoMemory}
use Rattle.ele_well_formed.specs.Fault.{HasFault}

-- the store whose text is the checkpoint of its world
abbrev pub taken_out : Embedding → Embedding
taken_out store = record store { answer = checkpoint (world_in store.state) }

-- the store that begins in the world, with a history or without. A history has one folded entry, since only the fresh world has no past
abbrev pub begun_plain : World → Embedding
begun_plain w = opened (Plain w None)

abbrev pub begun_recorded : World → Embedding
begun_recorded w = opened (Recorded (begun_from w 1))

abbrev pub begun : Bool → World → Embedding
begun history w = if history then begun_recorded w else begun_plain w

-- the bytes are the world's checkpoint, and a run may begin in it
pub record IsWorldOf (bytes : List ℕ) (w : World) : Type 0 where
  pub are : bytes ≡ checkpoint w
  pub start : IsStart w

-- the store begins in the world that the bytes have
abbrev pub PutsBack : List ℕ → (World → Embedding) → Embedding → Type 0
PutsBack bytes begins store = (w : World) × IsWorldOf bytes w × (store ≡ begins w)

-- the bytes are the checkpoint of no world that a run may begin in
abbrev pub HaveNone : List ℕ → Type 0
HaveNone bytes = (w : World) → IsFlat w → IsStart w → bytes ≡ checkpoint w → ⊥

-- the bytes are the checkpoint of a world whose rows have this fault
abbrev pub HaveFault : List ℕ → (World → Type 0) → Type 0
HaveFault bytes Faulty = (w : World) × (bytes ≡ checkpoint w) × Faulty w

-- why no store was made of the bytes: they have no such world; memory was refused; or the limits allow a history no entry
abbrev pub IsNotPutBack : List ℕ → Bool → CheckpointError → Type 0
IsNotPutBack bytes history (Damaged damage) = HaveNone bytes
IsNotPutBack bytes history (Fault fault) = HaveNone bytes × HaveFault bytes (λ w. HasFault w fault)
IsNotPutBack bytes history (Stop NoMemory) = Unit {0}
IsNotPutBack bytes history (Stop HistoryFull) = (history ≡ true) × HaveFault bytes (λ w. w.limits.events < 1)
