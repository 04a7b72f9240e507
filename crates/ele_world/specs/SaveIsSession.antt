-- A save does what a session does that opens, empties, writes and closes, and what a create and then a save do.
use Rattle.std.specs.Prelude.{◌≡◌, ℕ, ◌+◌, ◌<◌, ◌≤◌, ◌⊎◌, false, List, [], ◌∷◌, length, Some, Ok}
use Rattle.ele_content.specs.Content.{content_of, longest_content}
use Rattle.ele_model.specs.declared.event.Event.TheVariants.{OpenWrite, Truncate, Write, Close, Create, Save}
use Rattle.ele_model.specs.declared.reply.Reply.{Reply}
use Rattle.ele_model.specs.declared.reply.Reply.TheVariants.{Closed, File, Version}
use Rattle.ele_model.specs.Change.{current_cells}
use Rattle.ele_model.specs.Run.{run_of}
use Rattle.ele_model.specs.Step.{step}
use Rattle.ele_model.specs.Walk.{file_now}
use Rattle.ele_model.specs.WellFormed.{IsWellFormed}
use Rattle.ele_model.specs.World.{World, has_draft}

-- the reply to the close of a session, and the world after it
abbrev pub session : World → List (List ℕ) → List ℕ → Reply × World
session w path bytes =
    let handle = w.made.handles + 1 in
    step (run_of w (OpenWrite path ∷ Truncate handle 0 ∷ Write handle 0 bytes ∷ [])) (Close handle)

-- as if so many handles had been opened
abbrev pub with_handles : ℕ → World → World
with_handles count w = record w { made = record w.made { handles = count } }

-- of a file without a draft: if the session makes a version, so does the save, with the same number; the worlds differ in the count of
-- handles alone
abbrev pub SaveIsSession : Type 0
SaveIsSession =
    (w : World) (path : List (List ℕ)) (bytes : List ℕ) (file number : ℕ) → IsWellFormed w
    → file_now w.names path ≡ Ok file → has_draft w file ≡ false → length bytes ≤ longest_content
    → (session w path bytes).0 ≡ Closed (Some number)
    → step w (Save path bytes) ≡ (Version number, with_handles w.made.handles ((session w path bytes).1))

-- and if the save makes a version, so does the session, unless it has no handle left or finds and leaves an empty file
abbrev pub SessionIsSave : Type 0
SessionIsSave =
    (w : World) (path : List (List ℕ)) (bytes : List ℕ) (file number : ℕ) → IsWellFormed w
    → file_now w.names path ≡ Ok file → w.made.handles < w.limits.handles → (step w (Save path bytes)).0 ≡ Version number
    → ((session w path bytes).0 ≡ Closed (Some number)) ⊎ ((bytes ≡ []) × (content_of (current_cells w file) ≡ []))

-- where nothing is at the path: if neither is refused, a create and then the save reply and leave what the save alone does
abbrev pub SaveCreates : Type 0
SaveCreates =
    (w : World) (path : List (List ℕ)) (bytes : List ℕ) (file number : ℕ) → IsWellFormed w → (step w (Create path)).0 ≡ File file
    → let created = (step w (Create path)).1 in (step created (Save path bytes)).0 ≡ Version number
    → step w (Save path bytes) ≡ step created (Save path bytes)
