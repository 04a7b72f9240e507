-- A new file brings no key.
use Rattle.ele_state.proofs.Words.{ℕ, ◌+◌, List, ap, sym, ◌∙◌, subst, IsQueued, IsSound, Rows, world_of, Policy, World, MakeFile, after_change, is_moment, made_is}
use Rattle.ele_model.proofs.MadeMoments.{moment_stays}

pub made_queue : (rows : Rows) (directory : ℕ) (name : List ℕ) (policy : Policy) → IsSound rows → IsQueued (after_change (world_of rows) (MakeFile directory name (rows.made.files + 1) policy)) rows.queue
made_queue rows directory name policy sound =
    subst (λ (v : World). IsQueued v rows.queue) (sym (made_is (world_of rows) directory name policy sound.formed)) (λ j. sound.tracked.queue j ∙ ap (is_moment j.ripe) (sym (moment_stays (world_of rows) directory name policy sound.formed j.file j.number)))
