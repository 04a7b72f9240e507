-- Why nothing keeps a renewed world.
use Rattle.std.proofs.Common.{◌≡◌, ◌<◌, refl, subst}
use Rattle.std.specs.Prelude.{◌≢◌, Option}
use Rattle.ele_history.specs.Past.{Past, world_of}
use Rattle.ele_keeper.specs.Renewal.{IsNotRenewed}
use Rattle.ele_keeper.specs.declared.renewal.RenewalError.{RenewalError}
use Rattle.ele_keeper.specs.declared.renewal.RenewalError.TheVariants as renewals
use Rattle.ele_model.specs.World.{World}
use Rattle.ele_model.specs.declared.refusal.Stop.TheVariants.{HistoryFull, NoMemory}
use Rattle.ele_model.specs.declared.reply.Reply.{Reply}
use Rattle.ele_renewal.specs.Renewed.{IsClosed, renewed}
use Rattle.ele_runs.specs.Kept.{Kept, Plain, Recorded, world_in}

-- no fresh rows
pub not_fresh : (state : Kept) (w : World) (error : RenewalError) → w ≡ world_in state → (error ≡ renewals.Open → IsClosed w → ⊥) → error ≢ renewals.Stop HistoryFull → error ≢ renewals.HasJournal → IsNotRenewed state error
not_fresh state w renewals.HasJournal is held room bare = absurd (bare refl)
not_fresh state w renewals.Open is held room bare = subst (λ v. IsClosed v → ⊥) is (held refl)
not_fresh state w (renewals.Stop NoMemory) is held room bare = tt
not_fresh state w (renewals.Stop HistoryFull) is held room bare = absurd (room refl)

-- no core of fresh rows
pub not_plain : (w : World) (last : Option Reply) (error : RenewalError) → error ≡ renewals.Stop NoMemory → IsNotRenewed (Plain w last) error
not_plain w last error is = rw is tt

-- no history of fresh rows
pub not_recorded : (past : Past) (flat w : World) (error : RenewalError) → flat ≡ renewed w → w ≡ world_of past → error ≢ renewals.Open → error ≢ renewals.HasJournal → (error ≡ renewals.Stop HistoryFull → flat.limits.events < 1) → IsNotRenewed (Recorded past) error
not_recorded past flat w renewals.HasJournal made is held bare room = absurd (bare refl)
not_recorded past flat w renewals.Open made is held bare room = absurd (held refl)
not_recorded past flat w (renewals.Stop NoMemory) made is held bare room = tt
not_recorded past flat w (renewals.Stop HistoryFull) made is held bare room =
    (refl, subst (λ v. v.limits.events < 1) is (subst (λ v. v.limits.events < 1) made (room refl)))
