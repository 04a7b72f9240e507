-- A version that is held has the cells that it had when it closed.
use Rattle.ele_model.proofs.Basics.{nat_tests, arith, ◌≡◌, ℕ, List, [], ◌∷◌, Option, IfSome, refl, find, Ok, AllByRecursion, all-found, all-weaker, all-both, AllLater}
use Rattle.ele_model.proofs.Words.{Cell, content_of, TaggedPath, Change, after_change, after_changes, PoliciesAreLawful, fresh_world, run_of, plan, step, version_at, ArePlaced, IsVersion, Versions, Readers, HasParts, World, is_version, reads_by, IsEvent}
use Rattle.ele_headline.proofs.Words.{Bytes, Event, Of, Read, ReadsAsClosed, ReadsAsClosedInFreshRuns, ReadsAsClosedInRuns, ReadsRow, Tagged, Version, VersionRow}
use Rattle.ele_model.proofs.Allowed.{allowed}
use Rattle.ele_model.proofs.Formed.{in_parts}
use Rattle.ele_model.proofs.Keeps.{reached}
use Rattle.ele_model.proofs.May.{MayAll}
use Rattle.ele_lists.proofs.Cuts.{any-found}
use Rattle.ele_model.proofs.Meant.{is_at}
use Rattle.ele_model.proofs.Readers.{has_row}
use Rattle.ele_headline.proofs.HeldRows.{IsPast, change_past, Moves, change_moves}
use Rattle.ele_headline.proofs.HeldStays.{held_past}
use Rattle.ele_model.proofs.StepKeeps.{fresh_is, step_keeps, run_keeps}
use Rattle.ele_model.proofs.Versions.{IsFound, all_found}

-- ---- its cells stay

abbrev HaveCells : List Cell → Option VersionRow → Type 0
HaveCells cells found = IfSome found (λ row. row.cells ≡ cells)

-- the version's number was given, and if it is held it has the cells
record IsFixed (w : World) (file number : ℕ) (cells : List Cell) : Type 0 where
  past : IsPast w file number
  same : HaveCells cells (find (is_version file number) w.versions)

module _ (event : Event) (first : World) (placed : AllLater ArePlaced first.versions) (file number : ℕ) (cells : List Cell) where
  moved : (now : ℕ) (rows : List VersionRow) (before after : Option VersionRow) → HaveCells cells before → Moves event first now rows file number before after → HaveCells cells after
  moved now rows before after have moves = grind (arith, nat_tests)

  all_fixed : (w : World) (changes : List Change) → MayAll event first w changes → IsFixed w file number cells → IsFixed (after_changes w changes) file number cells
  all_fixed w [] may fixed = fixed
  all_fixed w (change ∷ changes) may fixed = grind (arith, nat_tests, all_fixed (after_change w change) changes may.1, change_past event first w change file number may.0 fixed.past, moved w.now w.versions, change_moves event first file number w change placed may.0 fixed.past)

run_fixed : (w : World) (events : List Event) (file number : ℕ) (cells : List Cell) → AllByRecursion IsEvent events → HasParts w → IsFixed w file number cells → IsFixed (run_of w events) file number cells
run_fixed w [] file number cells are k fixed = fixed
run_fixed w (event ∷ events) file number cells are k fixed =
    let by = reached event w (plan w event) (allowed w event k) in
    run_fixed ((step w event).1) events file number cells are.1 (step_keeps w event are.0 k)
    (rw by.is (all_fixed event w (k.holds Versions).placed file number cells w by.changes by.may fixed))

-- ---- what is read

module _ (w : World) (k : HasParts w) (row : VersionRow) (fixed : IsFixed w row.file row.number row.cells) where
  tagged_reads : (tagged : TaggedPath) (held : VersionRow) → version_at w tagged ≡ Ok held → held.file ≡ row.file → held.number ≡ row.number → (step w (Read (Tagged tagged))).0 ≡ Bytes (content_of row.cells)
  tagged_reads tagged held meant own number = grind (arith, nat_tests, k.holds Versions, is_at, all-found, all_found, fixed.same)

  handle_reads : (handle : ℕ) → reads_by w.handles handle ≡ Ok (Version row.file row.number) → (step w (Read (Of handle))).0 ≡ Bytes (content_of row.cells)
  handle_reads handle reads = grind (arith, nat_tests, k.holds Readers, has_row, any-found, all-found, fixed.same)

pub reads_after : (w : World) (events : List Event) → AllByRecursion IsEvent events → HasParts w → AllByRecursion (ReadsRow (run_of w events)) w.versions
reads_after w events are k = all-weaker (λ row. IsVersion w.files w.now row × IsFound w.versions row) (ReadsRow (run_of w events)) w.versions
    (λ row h.
    let then = run_keeps w events are k in
    let fixed = run_fixed w events row.file row.number row.cells are k (record { past = held_past w row k h.0; same = rw h.1 refl }) in
    record { tagged = tagged_reads (run_of w events) then row fixed; handle = handle_reads (run_of w events) then row fixed })
    (all-both (IsVersion w.files w.now) (IsFound w.versions) w.versions (k.holds Versions).each (all_found w.versions (k.holds Versions).placed))

pub reads_as_closed : PoliciesAreLawful → ReadsAsClosed
reads_as_closed law w events k are = reads_after w events are (in_parts law w k)

pub reads_as_closed_in_runs : PoliciesAreLawful → ReadsAsClosedInRuns
reads_as_closed_in_runs law start before after formed are then = reads_after (run_of start before) after then (run_keeps start before are (in_parts law start formed))

pub reads_as_closed_in_fresh_runs : PoliciesAreLawful → ReadsAsClosedInFreshRuns
reads_as_closed_in_fresh_runs law limits before after bounds are then = reads_as_closed_in_runs law (fresh_world limits) before after (fresh_is limits bounds) are then
