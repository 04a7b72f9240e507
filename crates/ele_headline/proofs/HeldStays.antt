-- What an event does to the versions that are held before it.
use Rattle.ele_model.proofs.Basics.{nat_tests, ◌≡◌, ℕ, true, List, [], ◌∷◌, Option, Some, None, arith, ◌⊎◌, find, AllByRecursion, all-weaker, all-both, any-found, found_passes, AllLater}
use Rattle.ele_model.proofs.Words.{Change, after_change, after_changes, is_due_at, plan, step, ArePlaced, IsVersion, Files, Versions, HasParts, World, is_version}
use Rattle.ele_model.proofs.DueRows.{due_is_unmarked, due_is_unread}
use Rattle.ele_model.proofs.Allowed.{allowed}
use Rattle.ele_model.proofs.Files.{next_of-given}
use Rattle.ele_model.proofs.Keeps.{reached}
use Rattle.ele_model.proofs.May.{MayAll}
use Rattle.ele_headline.proofs.HeldRows.{IsPast, all_behind, change_past, Moves, change_moves}
use Rattle.ele_model.proofs.Versions.{IsFound, all_found}
use Rattle.ele_headline.proofs.Words.{Event, CleanOne, VersionRow}
use Rattle.ele_headline.specs.HeldStays.{IsSameVersion, StaysSame}
use Rattle.ele_headline.specs.OnlyDueLeave.{StaysOrWasDue}

-- ---- one version, from the first world on

record IsStill (row : VersionRow) (found : Option VersionRow) : Type 0 where
  after : VersionRow
  is : found ≡ Some after
  same : IsSameVersion row after

abbrev StillOrDue : Event → World → VersionRow → Option VersionRow → Type 0
StillOrDue event first row found = IsStill row found ⊎ ((event ≡ CleanOne) × (is_due_at first row first.now ≡ true) × (found ≡ None))

moved : (event : Event) (first : World) (now : ℕ) (rows : List VersionRow) (row : VersionRow) (before after : Option VersionRow) → IsFound first.versions row → StillOrDue event first row before → Moves event first now rows row.file row.number before after → StillOrDue event first row after
moved event first now rows row before after found was moves = grind (arith, nat_tests)

follow : (event : Event) (first w : World) (row : VersionRow) (changes : List Change) → IsFound first.versions row → AllLater ArePlaced first.versions → MayAll event first w changes → IsPast w row.file row.number → StillOrDue event first row (find (is_version row.file row.number) w.versions) → StillOrDue event first row (find (is_version row.file row.number) (after_changes w changes).versions)
follow event first w row [] found placed may past was = was
follow event first w row (change ∷ changes) found placed may past was = grind (arith, nat_tests, follow event first (after_change w change) row changes found placed may.1 (change_past event first w change row.file row.number may.0 past), change_past event first w change row.file row.number may.0 past, moved event first w.now w.versions row, change_moves event first row.file row.number w change placed may.0 past)

-- the number of a version that is held was given
pub held_past : (w : World) (row : VersionRow) → HasParts w → IsVersion w.files w.now row → IsPast w row.file row.number
held_past w row k is = grind (arith, nat_tests, k.holds Files, next_of-given, all_behind)

-- ---- both laws

each_row : (w : World) (event : Event) (Q : VersionRow → Type 0) → HasParts w → ((row : VersionRow) → StillOrDue event w row (find (is_version row.file row.number) ((step w event).1).versions) → Q row) → AllByRecursion Q w.versions
each_row w event Q k then = grind (arith, nat_tests, k.holds Versions, all-weaker (λ row. IsVersion w.files w.now row × IsFound w.versions row) Q w.versions, reached event w (plan w event) (allowed w event k), allowed w event k, follow event w w, held_past w, all-both (IsVersion w.files w.now) (IsFound w.versions) w.versions, all_found w.versions)

pub only_due_leave : (w : World) (event : Event) → HasParts w → AllByRecursion (StaysOrWasDue w event) w.versions
only_due_leave w event k = grind (arith, nat_tests, each_row w event (StaysOrWasDue w event) k, (λ (row : VersionRow). any-found (is_version row.file row.number) (is_version row.file row.number) ((step w event).1).versions), found_passes, due_is_unread w, due_is_unmarked w)

pub held_stays : (w : World) (event : Event) → HasParts w → AllByRecursion (StaysSame w event) w.versions
held_stays w event k = grind (arith, nat_tests, each_row w event (StaysSame w event) k)
