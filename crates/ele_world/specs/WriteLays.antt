-- After a write the file's draft has its old content with the bytes written over it, and nothing else has changed; an empty write changes
-- nothing.
use Rattle.std.specs.Prelude.{◌≡◌, ℕ, ◌==◌, true, false, List, length, Some, Ok, find}
use Rattle.ele_content.specs.Content.{content_of, content_after_write}
use Rattle.ele_model.specs.declared.event.Event.TheVariants.{Write}
use Rattle.ele_model.specs.declared.reply.Reply.TheVariants.{Done}
use Rattle.ele_model.specs.declared.rows.DraftRow.{DraftRow}
use Rattle.ele_model.specs.Step.{step}
use Rattle.ele_model.specs.WellFormed.{IsWellFormed}
use Rattle.ele_model.specs.World.{World, is_draft, file_by}

-- the draft that the handle writes had the one content and has the other, and each other draft is the same
pub record ChangesDraft (before : World) (handle : ℕ) (becomes : List ℕ → List ℕ) (after : World) : Type 0 where
  pub file : ℕ
  pub was : DraftRow
  pub is : DraftRow
  pub written : file_by before.handles handle ≡ Ok file
  pub found : find (is_draft file) before.drafts ≡ Some was
  pub changed : find (is_draft file) after.drafts ≡ Some is
  pub opened : is.opened ≡ was.opened
  pub content : content_of is.cells ≡ becomes (content_of was.cells)
  pub others : (other : ℕ) → (other == file) ≡ false → find (is_draft other) after.drafts ≡ find (is_draft other) before.drafts
  pub rest : after ≡ record before { drafts = after.drafts }

abbrev pub WriteLays : Type 0
WriteLays =
    (w : World) (handle offset : ℕ) (bytes : List ℕ) → IsWellFormed w → (step w (Write handle offset bytes)).0 ≡ Done
    → ((length bytes == 0) ≡ true → (step w (Write handle offset bytes)).1 ≡ w)
    × ((length bytes == 0) ≡ false → ChangesDraft w handle (λ content. content_after_write content offset bytes) ((step w (Write handle offset bytes)).1))
