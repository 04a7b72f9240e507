-- A well-formed world has its parts, and what has them is well formed.
use Rattle.ele_policy.specs.Lawful.{PoliciesAreLawful}
use Rattle.ele_model.specs.Parts.{Bounded, Counted, Current, Directories, Drafts, Ended, Files, Groups, Handles, HasParts, Holds, Homes, Law, Names, Now, Part, PolicyLaw, Readers, Tree, Versions}
use Rattle.ele_model.specs.WellFormed.{IsWellFormed}
use Rattle.ele_model.specs.World.{World}

pub law_of : PolicyLaw → PoliciesAreLawful
unfolding PolicyLaw
law_of law = law

pub law_is : PoliciesAreLawful → PolicyLaw
unfolding PolicyLaw
law_is law = law

pub in_parts : PoliciesAreLawful → (w : World) → IsWellFormed w → HasParts w
in_parts law w k = record { holds = by } where
  by : (part : Part) → Holds w part
  by Now = k.now
  by Bounded = k.bounded
  by Counted = k.counted
  by Directories = k.directories
  by Files = k.files
  by Names = k.names
  by Homes = k.homes
  by Tree = k.tree
  by Versions = k.versions
  by Drafts = k.drafts
  by Handles = k.handles
  by Readers = k.readers
  by Current = k.current
  by Ended = k.ended
  by Groups = k.groups
  by Law = law_is law

pub well_formed : (w : World) → HasParts w → IsWellFormed w
well_formed w k = record {
  now = k.holds Now;
  bounded = k.holds Bounded;
  counted = k.holds Counted;
  directories = k.holds Directories;
  files = k.holds Files;
  names = k.holds Names;
  homes = k.holds Homes;
  tree = k.holds Tree;
  versions = k.holds Versions;
  drafts = k.holds Drafts;
  handles = k.holds Handles;
  readers = k.holds Readers;
  current = k.holds Current;
  ended = k.holds Ended;
  groups = k.holds Groups;
}
