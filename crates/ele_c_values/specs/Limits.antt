-- The limits that a C program gives, and what they count.
use Rattle.std.specs.Prelude.{◌≡◌, ℕ, Option, Some, None}
use Rattle.ele_c_values.specs.Numbers.{zeros}
use Rattle.ele_c_values.specs.declared.limits.LimitFields.{LimitFields}
use Rattle.ele_c_values.specs.declared.numbers.Numbers.{Numbers}
use Rattle.ele_model.specs.Bounds.{AreBounds, Bounds}
use Rattle.ele_model.specs.declared.limits.Counts.{Counts}

abbrev pub bounds_in : LimitFields → Bounds
bounds_in limits = record {
  events = limits.events;
  files = limits.files;
  directories = limits.directories;
  names = limits.names;
  versions = limits.versions;
  handles = limits.handles;
  groups = limits.groups;
  members = limits.members;
  marks = limits.marks;
}

-- there are none if one is above its largest
abbrev pub IsLimits : LimitFields → Option Bounds → Type 0
IsLimits limits None = ¬ AreBounds (bounds_in limits)
IsLimits limits (Some bounds) = (bounds ≡ bounds_in limits) × AreBounds (bounds_in limits)

-- what the limits count: events, files, directories, names, versions, handles, groups, members, marks
abbrev pub made_numbers : ℕ → Counts → Numbers
made_numbers events made = record zeros {
  first = events;
  second = made.files;
  third = made.directories;
  fourth = made.names;
  fifth = made.versions;
  sixth = made.handles;
  seventh = made.groups;
  eighth = made.members;
  ninth = made.marks;
}
