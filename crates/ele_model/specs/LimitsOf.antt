-- Nine numbers as limits, and the limit of one kind.
use Rattle.std.specs.Prelude.{ℕ, List, slice_index}
use Rattle.ele_model.specs.declared.refusal.Which.{Which}
use Rattle.ele_model.specs.declared.refusal.Which.TheVariants.{Files, Directories, Names, Versions, Handles, Groups, Members, Marks}
use Rattle.ele_model.specs.Bounds.{Bounds}

-- nine numbers as limits, in the order of the record
abbrev pub bounds_of : List ℕ → Bounds
bounds_of ns = record {
  events = slice_index ns 0;
  files = slice_index ns 1;
  directories = slice_index ns 2;
  names = slice_index ns 3;
  versions = slice_index ns 4;
  handles = slice_index ns 5;
  groups = slice_index ns 6;
  members = slice_index ns 7;
  marks = slice_index ns 8;
}

-- the limit of a kind that a refusal names as full
abbrev pub limit_of : Bounds → Which → ℕ
limit_of b Files = b.files
limit_of b Directories = b.directories
limit_of b Names = b.names
limit_of b Versions = b.versions
limit_of b Handles = b.handles
limit_of b Groups = b.groups
limit_of b Members = b.members
limit_of b Marks = b.marks
