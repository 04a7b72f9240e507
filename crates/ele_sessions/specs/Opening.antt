-- The drafts and handles after a handle is opened.
use Rattle.std.specs.Prelude.{◌≡◌, ℕ, ◌+◌, false, MatchBool, List, [], ◌∷◌, ◌++◌, if◌then◌else◌}
use Rattle.std.specs.List.{list_any}
use Rattle.ele_blocks.specs.Layout.{Layout}
use Rattle.ele_blocks.specs.Owes.{Moves}
use Rattle.ele_blocks.specs.Store.{Store}
use Rattle.ele_lists.specs.Lists.{insert_before}
use Rattle.ele_sessions.specs.Sessions.{Draft, AllSessions, is_draft, is_draft_after}
use Rattle.ele_model.specs.declared.rows.HandleRow.{HandleRow}
use Rattle.ele_model.specs.declared.rows.Reads.{Reads}
use Rattle.ele_model.specs.declared.rows.Reads.TheVariants as reads

-- a draft that is opened now, with that map's content
abbrev pub new_draft : ℕ → ℕ → ℕ → Layout → Draft
new_draft file number at layout =
    record { file = file; number = number; opened = at; layout = layout; changed = false }

-- the drafts with one of the file: its own, or else the new one
abbrev pub with_draft : Draft → List Draft → List Draft
with_draft new drafts =
    if list_any (is_draft new.file) drafts then drafts else insert_before (is_draft_after new.file) new drafts

-- the handles with the next one, which reads that
abbrev pub with_handle : AllSessions → Reads → List HandleRow
with_handle s what = s.handles ++ record { number = s.opened + 1; reads = what } ∷ []

-- one more handle, which writes the file of the draft
abbrev pub opened_by : AllSessions → Draft → AllSessions
opened_by s new = record {
  drafts = with_draft new s.drafts;
  handles = with_handle s (reads.Draft new.file);
  opened = s.opened + 1;
}

-- one more handle, which reads the version
abbrev pub reader_opened : AllSessions → ℕ → ℕ → AllSessions
reader_opened s file number =
    record s { handles = with_handle s (reads.Version file number); opened = s.opened + 1 }

-- a new draft owns a copy of the map; with an old one the store is as it was
abbrev pub Opens : Store → Store → List Draft → ℕ → Layout → Type 0
Opens s t drafts file layout = MatchBool (list_any (is_draft file) drafts) (t ≡ s) (Moves s t [] (layout ∷ []))
