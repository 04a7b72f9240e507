-- An abandoned handle is gone, and has made no version. If no other handle writes its file's draft, that is gone too; no other draft changes.
use Rattle.std.specs.Prelude.{◌≡◌, ℕ, ◌==◌, true, false, find, Ok, Err}
use Rattle.ele_model.specs.declared.event.Event.TheVariants.{Abandon}
use Rattle.ele_model.specs.declared.refusal.Refusal.TheVariants.{NoHandle}
use Rattle.ele_model.specs.declared.reply.Reply.TheVariants.{Done}
use Rattle.ele_model.specs.Step.{step, has_other_writer}
use Rattle.ele_model.specs.WellFormed.{IsWellFormed}
use Rattle.ele_model.specs.World.{World, file_by, has_draft, is_draft, reads_by}

pub record AbandonsDraft (before : World) (handle : ℕ) (after : World) : Type 0 where
  pub file : ℕ
  pub written : file_by before.handles handle ≡ Ok file
  pub gone : reads_by after.handles handle ≡ Err NoHandle
  pub kept : has_other_writer before handle file ≡ true → after.drafts ≡ before.drafts
  pub undrafted : has_other_writer before handle file ≡ false → has_draft after file ≡ false
  pub others : (other : ℕ) → (other == file) ≡ false → find (is_draft other) after.drafts ≡ find (is_draft other) before.drafts

-- the versions and all counts stay, whatever the reply
abbrev pub AbandonLeaves : Type 0
AbandonLeaves =
    (w : World) (handle : ℕ) → let after = (step w (Abandon handle)).1 in (after.versions ≡ w.versions) × (after.made ≡ w.made)

abbrev pub AbandonDrops : Type 0
AbandonDrops =
    (w : World) (handle : ℕ) → IsWellFormed w → (step w (Abandon handle)).0 ≡ Done
    → AbandonsDraft w handle ((step w (Abandon handle)).1)
