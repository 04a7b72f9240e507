-- What each change of an event needs: what it needs of the world, by what the event's types say of it; and a version leaves only
-- if it was due.
use Rattle.ele_model.proofs.Basics.{◌≡◌, ℕ, ◌≤◌, true, false, List, [], ◌∷◌, Some, is_none, find}
use Rattle.ele_model.proofs.Words.{last_moment, Change, Time, SetDirectoryDefault, SetFilePolicy, Take, after_change, is_due_at, Plan, IsEvent, IsPolicy, World, is_version, is_open, Event, CleanOne, VersionRow}
use Rattle.ele_model.proofs.PlanOutcomes.{InAll}
pub use Rattle.ele_model.specs.May.{MayMakeVersion, MayName, MayMakeDirectory, MayEnd, MayHaveMore, MayAdd, MayMove, MayRevive, MayMake, MayAppend, MayTake, MayStart, MayOpen, MayGroup, MayJoin, MayMark, May}

-- a version leaves only by a clean, before whose changes it was due
pub record MayClean (event : Event) (first w : World) (file number : ℕ) : Type 0 where
  pub clean : event ≡ CleanOne
  pub row : VersionRow
  pub found : find (is_version file number) first.versions ≡ Some row
  pub due : is_due_at first row first.now ≡ true
  pub ended : is_none row.ended ≡ false
  pub unread : is_open w.handles file number ≡ false
  pub same : w.versions ≡ first.versions

-- the change, by an event and from the world before the event's first change
abbrev pub MayBy : Event → World → World → Change → Type 0
MayBy event first w (Time to) = (w.now ≤ to) × (IsEvent event → to ≤ last_moment)
MayBy event first w (SetDirectoryDefault directory policy) = IsEvent event → IsPolicy policy
MayBy event first w (SetFilePolicy file policy) = IsEvent event → IsPolicy policy
MayBy event first w (Take file number) = MayClean event first w file number
MayBy event first w change = May w change

-- each in its turn
abbrev pub MayAll : Event → World → World → List Change → Type 0
MayAll event first w [] = Unit {0}
MayAll event first w (change ∷ changes) = MayBy event first w change × MayAll event first (after_change w change) changes

-- if the checks pass, the changes may be made
abbrev pub MayPlan : Event → World → Plan → Type 0
MayPlan event w plan = InAll (λ reply changes. MayAll event w w changes) plan
