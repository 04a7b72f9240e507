-- The rows of the files, and the invariant of the fields. No public clause cites this module.
use Rattle.std.specs.Prelude.{◌≡◌, ℕ, ◌+◌, ◌<◌, ◌≤◌, ◌==◌, Bool, List, ◌++◌, map, None}
use Rattle.std.specs.List.{flat_map, AllByRecursion}
use Rattle.ele_blocks.specs.Layout.{shown}
use Rattle.ele_blocks.specs.Stock.{Tagged, IsStocked, StockLaws}
use Rattle.ele_blocks.specs.Store.{Store}
use Rattle.ele_files.specs.Held.{Held}
use Rattle.ele_files.specs.declared.file.File.{File}
use Rattle.ele_files.specs.declared.files.Files.TheInside.{Inside}
use Rattle.ele_inode_log.specs.declared.row.VersionRow as log
use Rattle.ele_inode_log.specs.Rows.{AreInOrder}
use Rattle.ele_lists.specs.Lists.{AllLater}
use Rattle.ele_sessions.specs.Sessions.{Draft, AllSessions}
use Rattle.ele_model.specs.declared.rows.FileRow.{FileRow}
use Rattle.ele_model.specs.declared.rows.VersionRow.{VersionRow}
use Rattle.ele_model.specs.declared.rows.DraftRow.{DraftRow}
use Rattle.ele_model.specs.World.{next_of}

-- ---- the rows of the fields

abbrev pub file_row : File → FileRow
file_row f = record { id = f.id; policy = f.policy; next = f.next }

abbrev pub row_in : Store → ℕ → log.VersionRow → VersionRow
row_in s file row = record {
  file = file;
  number = row.number;
  opened = row.opened;
  closed = row.closed;
  ended = row.ended;
  cells = shown s row.cells;
}

abbrev pub rows_in : Store → File → List VersionRow
rows_in s f = map (row_in s f.id) f.log.rows

abbrev pub draft_in : Store → Draft → DraftRow
draft_in s d = record { file = d.file; opened = d.opened; cells = shown s d.layout; changed = d.changed }

abbrev pub held_in : Store → List File → AllSessions → Held
held_in s files sessions = record {
  files = map file_row files;
  versions = flat_map (rows_in s) files;
  drafts = map (draft_in s) sessions.drafts;
  handles = sessions.handles;
  opened = sessions.opened;
}

abbrev pub held_of : Inside → Held
held_of i = held_in i.store i.files.items i.sessions

-- ---- the invariant

-- the maps of all versions and drafts: a later version wrote none of a map's slots
abbrev pub row_stock : ℕ → log.VersionRow → Tagged
row_stock file row = record { file = file; below = row.number + 1; layout = row.cells }

abbrev pub file_stock : File → List Tagged
file_stock f = map (row_stock f.id) f.log.rows

abbrev pub draft_stock : Draft → Tagged
draft_stock d = record { file = d.file; below = d.number + 1; layout = d.layout }

abbrev pub stock_of : List File → List Draft → List Tagged
stock_of files drafts = flat_map file_stock files ++ map draft_stock drafts

-- a version's number is before the file's next; only the last may have no end
pub record IsRowOf (next : ℕ) (row : log.VersionRow) : Type 0 where
  pub first : 0 < row.number
  pub number : row.number < next
  pub open_end : row.ended ≡ None → row.number + 1 ≡ next

pub record IsFileKept (f : File) : Type 0 where
  pub next : 1 ≤ f.next
  pub rows : AllByRecursion (IsRowOf f.next) f.log.rows
  pub order : AreInOrder f.log.rows

-- a draft is to be the next version of its file, which is there
pub record IsDraftKept (files : List File) (d : Draft) : Type 0 where
  pub there : 0 < d.number
  pub number : d.number ≡ next_of (map file_row files) d.file

-- the laws of stocks are here, so that each change can cite them
pub record Keeps (s : Store) (files : List File) (sessions : AllSessions) : Type 0 where
  pub laws : StockLaws
  pub rise : AllLater (λ x y. x.id < y.id) files
  pub stocked : IsStocked s (stock_of files sessions.drafts)
  pub files_kept : AllByRecursion IsFileKept files
  pub drafts_kept : AllByRecursion (IsDraftKept files) sessions.drafts

abbrev pub IsKept : Inside → Type 0
IsKept i = Keeps i.store i.files.items i.sessions

-- the file of that number
abbrev pub is_id : ℕ → File → Bool
is_id id f = f.id == id
