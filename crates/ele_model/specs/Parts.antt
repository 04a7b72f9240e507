-- A well-formed world in parts, for proofs here and in the crates above. No public clause cites this module.
--
-- `HasParts w` is `IsWellFormed w` with the law that all policies are lawful, which `ele_policy` proves. `in_parts law w k` makes it of the
-- two, and `well_formed w k` turns it into `IsWellFormed w` again (both in `proofs/Formed`). A law whose premise is `IsWellFormed w` is
-- proved from `HasParts w`, and its function calls `policies_are_lawful` for the rest.
use Rattle.std.specs.Prelude.{◌≤◌, length}
use Rattle.ele_lists.specs.Lists.{AllLater}
use Rattle.ele_moment.specs.Last.{last_moment}
use Rattle.ele_policy.specs.Lawful.{PoliciesAreLawful}
use Rattle.ele_model.specs.Bounds.{AreBounds}
use Rattle.ele_model.specs.WellFormed.{AreCounted, AreDirectories, AreDrafts, AreFiles, AreGroups, AreHandles, AreHeldRead, AreHoused, AreNames, AreOthers, AreVersions, HaveCurrent, HaveEnded}
use Rattle.ele_model.specs.World.{World}

pub data Part : Type 0 where
  Now : Part
  Bounded : Part
  Counted : Part
  Directories : Part
  Files : Part
  Names : Part
  Homes : Part
  Tree : Part
  Versions : Part
  Drafts : Part
  Handles : Part
  Readers : Part
  Current : Part
  Ended : Part
  Groups : Part
  Law : Part

-- the law of policies, under a name of its own, so that no search looks into it
unfoldable pub PolicyLaw : Type 0
PolicyLaw = PoliciesAreLawful

abbrev pub Holds : World → Part → Type 0
Holds w Now = w.now ≤ last_moment
Holds w Bounded = AreBounds w.limits
Holds w Counted = AreCounted w.made w.limits (length w.files) (length w.names) (length w.versions) (length w.drafts)
Holds w Directories = AreDirectories w.made.directories w.limits.directories w.directories
Holds w Files = AreFiles w.made.files w.made.versions w.files
Holds w Names = AreNames w.files w.now w.names
Holds w Homes = AreHoused w.directories w.names
Holds w Tree = AllLater AreOthers w.names
Holds w Versions = AreVersions w.files w.now w.versions
Holds w Drafts = AreDrafts w.files w.now w.drafts
Holds w Handles = AreHandles w.made.handles w.drafts w.handles
Holds w Readers = AreHeldRead w.versions w.handles
Holds w Current = HaveCurrent w
Holds w Ended = HaveEnded w
Holds w Groups = AreGroups w.made.groups w.files w.now w.groups
Holds w Law = PolicyLaw

-- each part holds
pub record HasParts (w : World) : Type 0 where
  pub holds : (part : Part) → Holds w part
