-- The replies to writes and truncates, and the drafts after them.
use Rattle.std.specs.Prelude.{◌≡◌, ℕ, ◌+◌, ◌==◌, nat_lt, true, false, Bool, MatchBool, List, [], ◌∷◌, length, Option, Some, None, Result, Ok, Err, find, if◌then◌else◌}
use Rattle.std.specs.Option.{IsSomeAnd, option_map_or}
use Rattle.ele_content.specs.Content.{longest_content}
use Rattle.ele_blocks.specs.Changes.{IsWritten, IsResized}
use Rattle.ele_blocks.specs.Layout.{Layout}
use Rattle.ele_blocks.specs.Store.{Store}
use Rattle.ele_lists.specs.Lists.{update_first}
use Rattle.ele_sessions.specs.Sessions.{Draft, AllSessions, draft_of, is_draft, handle_file}
use Rattle.ele_model.specs.World.{file_by}
use Rattle.ele_model.specs.declared.refusal.Refusal.{Refusal}
use Rattle.ele_model.specs.declared.refusal.Refusal.TheVariants.{TooBig}
use Rattle.ele_model.specs.declared.rows.HandleRow.{HandleRow}

-- why a write is refused, whatever memory there is
abbrev pub write_refusal_of : Result ℕ Refusal → ℕ → List ℕ → Option Refusal
write_refusal_of (Err refusal) offset bytes = Some refusal
write_refusal_of (Ok file) offset [] = None
write_refusal_of (Ok file) offset (byte ∷ bytes) =
    if nat_lt longest_content (offset + length (byte ∷ bytes)) then Some TooBig else None

abbrev pub write_refusal : List HandleRow → ℕ → ℕ → List ℕ → Option Refusal
write_refusal handles handle offset bytes = write_refusal_of (file_by handles handle) offset bytes

-- why a truncate is refused, whatever memory there is
abbrev pub truncate_refusal_of : Result ℕ Refusal → ℕ → Option Refusal
truncate_refusal_of (Err refusal) size = Some refusal
truncate_refusal_of (Ok file) size = if nat_lt longest_content size then Some TooBig else None

abbrev pub truncate_refusal : List HandleRow → ℕ → ℕ → Option Refusal
truncate_refusal handles handle size = truncate_refusal_of (file_by handles handle) size

-- the draft with another map, marked as changed
abbrev pub rewritten_by : Layout → Draft → Draft
rewritten_by layout draft = record draft { layout = layout; changed = true }

-- the file's draft has another map, which is made in that way, and the other drafts are as they were
pub record RewritesDraft (old new : List Draft) (file : ℕ) (Made : Draft → Layout → Type 0) : Type 0 where
  pub was : Draft
  pub layout : Layout
  pub found : find (is_draft file) old ≡ Some was
  pub made : new ≡ update_first (is_draft file) (rewritten_by layout) old
  pub how : Made was layout

-- and the handles are as they were
abbrev pub Redrafts : AllSessions → AllSessions → ℕ → (Draft → Layout → Type 0) → Type 0
Redrafts old new file Made = (new ≡ record old { drafts = new.drafts }) × RewritesDraft old.drafts new.drafts file Made

-- drafts, handles and blocks are as they were
pub record Stays (s t : Store) (old new : AllSessions) : Type 0 where
  pub sessions : new ≡ old
  pub store : t ≡ s

-- an empty write changes nothing; any other write is in the handle's draft, which is then changed
abbrev pub Writes : Store → Store → AllSessions → AllSessions → ℕ → ℕ → List ℕ → Type 0
Writes s t old new handle offset [] = Stays s t old new
Writes s t old new handle offset (byte ∷ bytes) =
    IsSomeAnd (handle_file old.handles handle) (λ file. Redrafts old new file (λ was. IsWritten s t was.number offset (byte ∷ bytes) was.layout))

-- the draft is there and has that many bytes
abbrev pub has_length : ℕ → Option Draft → Bool
has_length size draft = option_map_or (λ d. d.layout.size == size) draft false

-- a draft of that length stays, and any other is resized
abbrev pub Resizes : Store → Store → List Draft → List Draft → ℕ → ℕ → Type 0
Resizes s t old new file size =
    MatchBool (has_length size (find (is_draft file) old)) ((new ≡ old) × (t ≡ s)) (RewritesDraft old new file (λ was. IsResized s t was.number size was.layout))

-- a truncate to the same length changes nothing, and one to another length changes the file's draft
abbrev pub Refits : Store → Store → AllSessions → AllSessions → ℕ → ℕ → Type 0
Refits s t old new file size =
    MatchBool (has_length size (draft_of old file)) (Stays s t old new) (Redrafts old new file (λ was. IsResized s t was.number size was.layout))

-- the same for the handle's draft
abbrev pub Truncates : Store → Store → AllSessions → AllSessions → ℕ → ℕ → Type 0
Truncates s t old new handle size = IsSomeAnd (handle_file old.handles handle) (λ file. Refits s t old new file size)
