-- A held version's life before now stays: an event may end it, and then now.
use Rattle.ele_model.proofs.Basics.{AllByRecursion, nat_tests, arith, ◌≡◌, ℕ, ◌<◌, ◌≤◌, List, [], ◌∷◌, Option, Some, None, find, AllLater, all-weaker, all-both}
use Rattle.ele_model.proofs.Words.{World, Change, HasParts, ArePlaced, IsVersion, Versions, after_change, after_changes, ended_at, is_version, lives_at, plan}
use Rattle.ele_world.proofs.Words.{Event, VersionRow}
use Rattle.ele_world.specs.LifeStays.{LivesAsBefore}
use Rattle.ele_model.proofs.Allowed.{allowed}
use Rattle.ele_model.proofs.Keeps.{reached}
use Rattle.ele_model.proofs.May.{MayAll}
use Rattle.ele_headline.proofs.HeldRows.{IsPast, change_past, Moves, Same, Ended, Taken, change_moves}
use Rattle.ele_headline.proofs.HeldStays.{held_past}
use Rattle.ele_model.proofs.Versions.{IsFound, all_found}
use Rattle.ele_world.proofs.KnownVersions.{change_later}

-- before the moment it lived as the row did
abbrev LivesOn : ℕ → VersionRow → Option VersionRow → Type 0
LivesOn now row found = (later : VersionRow) (moment : ℕ) → found ≡ Some later → moment < now → lives_at moment later ≡ lives_at moment row

-- an end that is set then, or stays
ends : (row : VersionRow) (at moment : ℕ) → moment < at → lives_at moment (ended_at at row) ≡ lives_at moment row
ends row at moment before = grind (arith, nat_tests)

moved : (event : Event) (first : World) (since now : ℕ) (rows : List VersionRow) (row : VersionRow) (before after : Option VersionRow) → since ≤ now → LivesOn since row before → Moves event first now rows row.file row.number before after → LivesOn since row after
moved event first since now rows row before after le was (Same e) = λ later moment found less. was later moment (grind (arith, e, found)) less
moved event first since now rows row None after le was (Ended e) = λ later moment found less. absurd cc
moved event first since now rows row (Some old) after le was (Ended e) = λ later moment found less. grind (arith, e, found, was old moment, ends old now moment)
moved event first since now rows row before after le was (Taken w may is e) = λ later moment found less. absurd cc

follow : (event : Event) (first w : World) (row : VersionRow) (changes : List Change) → AllLater ArePlaced first.versions → MayAll event first w changes → IsPast w row.file row.number → first.now ≤ w.now → LivesOn first.now row (find (is_version row.file row.number) w.versions) → LivesOn first.now row (find (is_version row.file row.number) (after_changes w changes).versions)
follow event first w row [] placed may past le was = was
follow event first w row (change ∷ changes) placed may past le was =
    let v = after_change w change in
    let on : w.now ≤ v.now = change_later event first w change may.0 in
    follow event first v row changes placed may.1 (change_past event first w change row.file row.number may.0 past) (omega arith)
    (moved event first first.now w.now w.versions row (find (is_version row.file row.number) w.versions) (find (is_version row.file row.number) v.versions) le was (change_moves event first row.file row.number w change placed may.0 past))

lives : (w : World) (event : Event) (row : VersionRow) → HasParts w → IsVersion w.files w.now row → IsFound w.versions row → LivesAsBefore w event row
lives w event row k is found =
    let by = reached event w (plan w event) (allowed w event k) in
    rw by.is (follow event w w row by.changes (k.holds Versions).placed by.may (held_past w row k is) (omega arith) (λ later moment same less. grind (arith, found, same)))

pub life_stays : (w : World) (event : Event) → HasParts w → AllByRecursion (LivesAsBefore w event) w.versions
life_stays w event k = all-weaker (λ row. IsVersion w.files w.now row × IsFound w.versions row) (LivesAsBefore w event) w.versions (λ row is. lives w event row k is.0 is.1) (all-both (IsVersion w.files w.now) (IsFound w.versions) w.versions (k.holds Versions).each (all_found w.versions (k.holds Versions).placed))
