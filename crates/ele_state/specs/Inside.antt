-- The world of a state's rows, and the invariant of the rows. No public clause cites this module.
use Rattle.ele_state.specs.declared.rows.Rows.{Rows}
use Rattle.ele_state.specs.Shown.{Shown}
use Rattle.ele_state.specs.Queued.{IsQueued}
use Rattle.ele_state.specs.Tracked.{IsBooked}
use Rattle.ele_model.specs.Bounds.{AreBounds}
use Rattle.ele_model.specs.NoIdleStays.{HasNoIdle}
use Rattle.ele_model.specs.Parts.{HasParts}
use Rattle.ele_model.specs.World.{World}

abbrev pub world_of : Rows → World
world_of rows = record {
  now = rows.moment;
  directories = rows.directories.items;
  files = rows.files.files;
  names = rows.names;
  versions = rows.files.versions;
  drafts = rows.files.drafts;
  handles = rows.files.handles;
  groups = rows.groups;
  made = record { files = rows.made.files; directories = rows.made.directories; names = rows.made.names; versions = rows.made.versions; handles = rows.files.opened; groups = rows.made.groups; members = rows.made.members; marks = rows.made.marks };
  limits = rows.limits;
}

abbrev pub shown_of : Rows → Shown
shown_of rows = record { world = world_of rows; rows_read = rows.meter }

-- the queue and the book follow the files, and the limits are limits
pub record IsTracked (rows : Rows) : Type 0 where
  pub queue : IsQueued (world_of rows) rows.queue
  pub book : IsBooked rows.files rows.book
  pub bounds : AreBounds rows.limits

pub record IsSound (rows : Rows) : Type 0 where
  pub formed : HasParts (world_of rows)
  pub tracked : IsTracked rows

-- between events the rows are sound, and each file has a live name, a held version or a draft
pub record IsSettled (rows : Rows) : Type 0 where
  pub sound : IsSound rows
  pub none_idle : HasNoIdle (world_of rows)
