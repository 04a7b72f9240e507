-- A close that returns a version's number has made it of all that was written, and a revert of the version that it names.
use Rattle.ele_model.proofs.Basics.{◌≡◌, ℕ, List, [], ◌∷◌, Some, arith, find, Ok, nat_tests, refl}
use Rattle.ele_model.proofs.Words.{after_changes, ShutHandle, EndDraft, Append, is_draft, next_version, draft_read, step, Versions, HasParts, World, next_of}
use Rattle.ele_model.proofs.Words.{reads_by, after_change, file_now, version_meant, Names}
use Rattle.ele_model.specs.declared.reply.Reply.TheVariants as reply
use Rattle.ele_path.specs.declared.tagged.Tag.TheVariants as tag
use Rattle.ele_model.proofs.PlanOutcomes.{in_all}
use Rattle.ele_model.proofs.Files.{next_of-numbered_on}
use Rattle.ele_model.proofs.Walks.{file_there}
use Rattle.ele_model.proofs.NextVersion.{new_found}
use Rattle.ele_world.proofs.Words.{DraftRow, Revert, Close, Reads, VersionRow}
use Rattle.ele_world.specs.CloseKeeps.{KeepsDraft}
use Rattle.ele_world.specs.RevertKeeps.{CopiesVersion}

keeps : (w : World) (handle file : ℕ) (read : Reads) (draft : DraftRow) → HasParts w → reads_by w.handles handle ≡ Ok read → draft_read read ≡ Some file → find (is_draft file) w.drafts ≡ Some draft → KeepsDraft w handle (next_of w.files file) (after_changes w (ShutHandle handle ∷ EndDraft file ∷ Append file draft.opened draft.cells ∷ []))
keeps w handle file read draft k reads its drafted = record { file = file; draft = draft; written = grind (arith, nat_tests); drafted = drafted; kept = grind (arith, nat_tests, new_found w file (k.holds Versions).each draft.opened draft.cells) }

pub close_keeps : (w : World) (handle number : ℕ) → HasParts w → (step w (Close handle)).0 ≡ reply.Closed (Some number) → KeepsDraft w handle number ((step w (Close handle)).1)
close_keeps w handle number k = grind (arith, nat_tests, in_all, keeps w handle)

-- ---- a revert

copies : (w : World) (path : List (List ℕ)) (number file : ℕ) (row : VersionRow) → HasParts w → file_now w.names path ≡ Ok file → version_meant w.files w.versions file (tag.Number number) ≡ Ok row → CopiesVersion w path number (next_of w.files file) (after_change w (Append file w.now row.cells))
copies w path number file row k named meant = record {
  file = file;
  was = row;
  is = next_version w file w.now row.cells;
  named = named;
  meant = meant;
  current = grind (arith, nat_tests, new_found w file (k.holds Versions).each w.now row.cells, next_of-numbered_on w.files file, file_there w.files w.now w.names path file (k.holds Names).each named);
  numbered = refl;
  cells = refl;
  opened = refl;
  closed = refl;
}

pub revert_keeps : (w : World) (path : List (List ℕ)) (number made : ℕ) → HasParts w → (step w (Revert path number)).0 ≡ reply.Version made → CopiesVersion w path number made ((step w (Revert path number)).1)
revert_keeps w path number made k = grind (arith, nat_tests, in_all, copies w path number)
