-- The invariant of the fields. No public clause cites this module.
use Rattle.std.specs.Prelude.{◌≡◌, ℕ, ◌≤◌, Bool, List, length}
use Rattle.std.specs.List.{count_by}
use Rattle.ele_rows.specs.declared.tally.Tally.{Tally}
use Rattle.ele_rows.specs.Tally.{counted}
use Rattle.ele_sessions.specs.declared.sessions.Sessions.TheInside.{Inside}
use Rattle.ele_sessions.specs.Inside.{drafts_of}
use Rattle.ele_sessions.specs.Orderly.{AreOrderly}
use Rattle.ele_sessions.specs.Sessions.{AllSessions}
use Rattle.ele_model.specs.contracts.rows.ReadsPartialEq.TheImpl.{eq-value}
use Rattle.ele_model.specs.declared.rows.HandleRow.{HandleRow}
use Rattle.ele_model.specs.declared.rows.Reads.{Reads}

-- the two are equal
abbrev pub reads_eq : Reads → Reads → Bool
reads_eq = eq-value.it

-- how many of the handles read this
abbrev pub reading : Reads → List HandleRow → ℕ
reading what handles = count_by (λ handle. reads_eq handle.reads what) handles

-- drafts and handles are orderly, and the counts are those of what handles read
pub record Keeps (s : AllSessions) (counts : Tally Reads) : Type 0 where
  pub orderly : AreOrderly s
  pub few : length s.handles ≤ s.opened
  pub counted : (what : Reads) → counted reads_eq counts what ≡ reading what s.handles

abbrev pub sessions_of : Inside → AllSessions
sessions_of s = record { drafts = drafts_of s.drafts.items; handles = s.handles.items; opened = s.opened }

abbrev pub IsKept : Inside → Type 0
IsKept s = Keeps (sessions_of s) s.counts
