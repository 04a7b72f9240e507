-- Stores that begin in a world that was read, and why there are none.
use Rattle.std.proofs.Common.{◌≡◌, ℕ, ◌<◌, List, Bool, true, refl, sym, subst}
use Rattle.ele_checkpoint.specs.Checkpoint.{checkpoint}
use Rattle.ele_checkpoint.specs.Fits.{IsFlat}
use Rattle.ele_embed.specs.Checkpoints.{HaveNone, IsNotPutBack, PutsBack}
use Rattle.ele_embed.specs.Embedding.{Embedding}
use Rattle.ele_embed.specs.declared.checkpoint.CheckpointError.TheVariants as checkpoints
use Rattle.ele_model.specs.Start.{IsStart}
use Rattle.ele_model.specs.World.{World}
use Rattle.ele_model.specs.declared.refusal.Stop.{Stop}
use Rattle.ele_model.specs.declared.refusal.Stop.TheVariants.{HistoryFull, NoMemory}

-- a store that begins in the world of the bytes
pub puts_back : (bytes : List ℕ) (begins : World → Embedding) (store : Embedding) (w : World) → bytes ≡ checkpoint w → IsStart w → store ≡ begins w → PutsBack bytes begins store
puts_back bytes begins store w are start made = (w, record { are = are; start = start }, made)

-- no run may begin in the world that was read, and no other world has the bytes
pub have_none : (bytes : List ℕ) (flat : World) → ((w : World) → IsFlat w → bytes ≡ checkpoint w → flat ≡ w) → (IsStart flat → ⊥) → HaveNone bytes
have_none bytes flat only never w fits start are = never (subst IsStart (sym (only w fits are)) start)

-- a stop of a store with a history or without
pub stopped : (bytes : List ℕ) (history : Bool) (stop : Stop) (flat : World) → bytes ≡ checkpoint flat → (stop ≡ HistoryFull → (history ≡ true) × (flat.limits.events < 1)) → IsNotPutBack bytes history (checkpoints.Stop stop)
stopped bytes history NoMemory flat are full = tt
stopped bytes history HistoryFull flat are full = let it = full refl in (it.0, (flat, are, it.1))
