-- A handle that writes, and begins its file's draft.
use Rattle.ele_state.specs.Full.{is_full}
use Rattle.ele_model.proofs.Basics.{◌≡◌, ◌+◌, ℕ, List, Ok, [], ◌∷◌, false, refl}
use Rattle.ele_model.specs.Change.{OpenHandle, StartDraft, after_changes}
use Rattle.ele_model.specs.Step.{step}
use Rattle.ele_model.specs.Walk.{file_now}
use Rattle.ele_model.specs.World.{World, has_draft}
use Rattle.ele_model.specs.declared.event.Event.TheVariants.{OpenWrite}
use Rattle.ele_model.specs.declared.refusal.Which.TheVariants.{Handles, Versions}
use Rattle.ele_model.specs.declared.reply.Reply.TheVariants.{Handle}
use Rattle.ele_model.specs.declared.rows.Reads.TheVariants.{Draft}

pub opened : (w after : World) (path : List (List ℕ)) (file number : ℕ) → file_now w.names path ≡ Ok file → is_full w Handles ≡ false → has_draft w file ≡ false → is_full w Versions ≡ false → number ≡ w.made.handles + 1
    → after ≡ after_changes w (StartDraft file ∷ OpenHandle number (Draft file) ∷ []) → (Handle number, after) ≡ step w (OpenWrite path)
opened w after path file number leads handles none versions is then = rw (then, is, leads, handles, none, versions) refl
