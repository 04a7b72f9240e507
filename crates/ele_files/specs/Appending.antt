-- A file after its next version is appended. No public clause cites this module.
use Rattle.std.specs.Prelude.{◌≡◌, ℕ, ◌+◌, ◌-◌, ◌≤◌, Bool, List, [], ◌∷◌, ◌++◌, Option, Some, None, IfSome, unwrap_or, if◌then◌else◌}
use Rattle.ele_blocks.specs.Layout.{Layout}
use Rattle.ele_blocks.specs.Owes.{Moves}
use Rattle.ele_blocks.specs.Store.{Store}
use Rattle.ele_files.specs.declared.file.File.{File}
use Rattle.ele_inode_log.specs.declared.row.VersionRow as log
use Rattle.ele_inode_log.specs.Rows.{has_number}
use Rattle.ele_lists.specs.Lists.{update_first}
use Rattle.ele_sessions.specs.declared.closing.Closing.{Closing}
use Rattle.ele_sessions.specs.declared.closing.Closing.TheVariants.{Changed}

-- the version closed by that moment, and if it has ended, it ended by then
pub record IsRowPast (now : ℕ) (row : log.VersionRow) : Type 0 where
  pub closed : row.closed ≤ now
  pub ended : IfSome row.ended (λ ended. ended ≤ now)

-- the version ends then, unless it has ended
abbrev pub ended_by : ℕ → log.VersionRow → log.VersionRow
ended_by now row = record row { ended = Some (unwrap_or row.ended now) }

-- the rows, in which the one before the next one has ended
abbrev pub ended_rows : File → ℕ → List log.VersionRow
ended_rows f now = update_first (has_number (f.next - 1)) (ended_by now) f.log.rows

-- the version that closes at that moment, and also ends then if the file isn't live
abbrev pub next_row : ℕ → ℕ → ℕ → Bool → Layout → log.VersionRow
next_row number opened now live cells =
    record { number = number; opened = opened; closed = now; ended = if live then None else Some now; cells = cells }

-- the map is given up, if there is one
abbrev pub IsGivenUp : Store → Store → Option Layout → Type 0
IsGivenUp s t None = t ≡ s
IsGivenUp s t (Some map) = Moves s t (map ∷ []) []

-- only the rows differ
pub record HasRows (f g : File) (these : List log.VersionRow) : Type 0 where
  pub id : g.id ≡ f.id
  pub policy : g.policy ≡ f.policy
  pub next : g.next ≡ f.next
  pub rows : g.log.rows ≡ these

-- the version before the next one has ended, and the next one is the last
pub record HasAppended (f g : File) (now : ℕ) (row : log.VersionRow) : Type 0 where
  pub id : g.id ≡ f.id
  pub policy : g.policy ≡ f.policy
  pub next : g.next ≡ f.next + 1
  pub rows : g.log.rows ≡ ended_rows f now ++ row ∷ []

-- when the draft was opened that the close turns into a version
abbrev pub opening_of : Option Closing → Option ℕ
opening_of (Some (Changed file opened)) = Some opened
opening_of _ = None
