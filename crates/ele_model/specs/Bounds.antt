-- The numbers of a world's limits.
use Rattle.std.specs.Prelude.{◌≤◌}
use Rattle.ele_model.specs.declared.limits.LimitNumbers.{LimitNumbers}

abbrev pub Bounds : Type 0
Bounds = LimitNumbers

-- the largest limits
abbrev pub largest_bounds : Bounds
largest_bounds = record {
  events = 1000000000;
  files = 100000;
  directories = 10000;
  names = 200000;
  versions = 1000000;
  handles = 1000000;
  groups = 1000;
  members = 100000;
  marks = 10000;
}

-- no limit is above its largest
pub record AreBounds (b : Bounds) : Type 0 where
  pub events : b.events ≤ largest_bounds.events
  pub files : b.files ≤ largest_bounds.files
  pub directories : b.directories ≤ largest_bounds.directories
  pub names : b.names ≤ largest_bounds.names
  pub versions : b.versions ≤ largest_bounds.versions
  pub handles : b.handles ≤ largest_bounds.handles
  pub groups : b.groups ≤ largest_bounds.groups
  pub members : b.members ≤ largest_bounds.members
  pub marks : b.marks ≤ largest_bounds.marks
