-- In a run one version of a file lived at each moment, from the start on, that a name of the file covers.
use Rattle.ele_model.proofs.Basics.{◌≡◌, ℕ, true, false, List, [], ◌∷◌, Option, Some, None, ap, subst, sym, ◌∙◌, arith, find, Ok, Err, AllByRecursion, option_or, false≢true, cases_lt, nat_tests, all-found, all-not_found, all-weaker, found_passes, any-found, AllLater}
use Rattle.ele_model.proofs.Words.{Change, after_change, after_changes, run_of, PoliciesAreLawful, plan, step, had_closed, had_life, last_number, lives_at, version_living, ArePlaced, Versions, HasParts, World, fresh_world, is_held, is_version, IsEvent}
use Rattle.ele_world.proofs.Words.{Event, Forgotten, HasLivesFrom, HasOneLife, NamesOneLife, NamesOneLifeFrom, OneLife, OneLifeFrom, VersionRow, last_stood}
use Rattle.ele_lists.proofs.Cuts.{any-found as first_passing}
use Rattle.ele_model.proofs.Allowed.{allowed}
use Rattle.ele_model.proofs.Keeps.{event_keeps, reached}
use Rattle.ele_world.proofs.KnownVersions.{change_known, known_first, Known, known_in, HadLife, IsCovered, AreKnown, or_none}
use Rattle.ele_headline.proofs.HeldRows.{row_of}
use Rattle.ele_model.proofs.May.{MayAll}
use Rattle.ele_model.proofs.StepKeeps.{fresh_is, step_keeps, run_keeps}
use Rattle.ele_model.proofs.Versions.{all_found}
use Rattle.ele_model.proofs.Formed.{in_parts}

-- ---- events

-- what is known twice is known
known_once : (o p : Option VersionRow) → option_or o (option_or o p) ≡ option_or o p
known_once o p = grind (arith, nat_tests)

known_rest : (o p q : Option VersionRow) → option_or (option_or o p) q ≡ option_or o (option_or p q)
known_rest o p q = grind (arith, nat_tests)

all_known : (start : ℕ) (event : Event) (first w : World) (changes : List Change) (before : Known) → AllLater ArePlaced first.versions
    → ((file number : ℕ) (row : VersionRow) → row_of first file number ≡ Some row → before file number ≡ Some row)
    → IsEvent event → HasParts w → MayAll event first w changes → AreKnown start w (known_in w before) → AreKnown start (after_changes w changes) (known_in (after_changes w changes) before)
all_known start event first w [] before placed first_held is k may s = s
all_known start event first w (change ∷ changes) before placed first_held is k may s =
    let k' = event_keeps event first w change is may.0 k in
    all_known start event first (after_change w change) changes before placed first_held is k' may.1
    (change_known start event first w change before (record { placed = placed; first_held = first_held; formed = k; formed_after = k'; may = may.0; known = s }))

-- ---- runs

abbrev known_after : World → List Event → Known → Known
known_after w events before file number = option_or (last_stood w events file number) (before file number)

run_known : (start : ℕ) (w : World) (events : List Event) (before : Known) → AllByRecursion IsEvent events → HasParts w → AreKnown start w (known_in w before) → AreKnown start (run_of w events) (known_after w events before)
run_known start w [] before are k s = s
run_known start w (event ∷ events) before are k s =
    let by = reached event w (plan w event) (allowed w event k) in
    let v = (step w event).1 in
    let known = known_in w before in
    let again : AreKnown start w (known_in w known) = subst (AreKnown start w) (λ i file number. sym (known_once (row_of w file number) (before file number)) i) s in
    let then : AreKnown start v (known_in v known) = rw by.is (all_known start event w w by.changes known (k.holds Versions).placed s.held are.0 k by.may again) in
    subst (AreKnown start (run_of v events)) (λ i file number. sym (known_rest (last_stood v events file number) (row_of w file number) (before file number)) i) (run_known start v events known are.1 (step_keeps w event are.0 k) then)

ever_known : (first : World) (events : List Event) → AllByRecursion IsEvent events → HasParts first → AreKnown first.now (run_of first events) (last_stood first events)
ever_known first events are k =
    subst (AreKnown first.now (run_of first events)) (λ i file number. sym (or_none (last_stood first events file number)) i) (run_known first.now first events (λ file number. None) are k (known_first first k))

-- ---- one life

module _ (first : World) (events : List Event) (k : HasParts (run_of first events)) (s : AreKnown first.now (run_of first events) (last_stood first events)) (file moment : ℕ) (life : HadLife (last_stood first events) file moment) where
  abbrev w : World
  w = run_of first events

  only : (number : ℕ) (other : VersionRow) → last_stood first events file number ≡ Some other → lives_at moment other ≡ true → number ≡ life.row.number
  only number other stood lives = grind (arith, nat_tests, stood, lives, life.stood, life.lived, cases_lt number life.row.number, cases_lt life.row.number number, s.placed file number life.row.number other life.row, s.placed file life.row.number number life.row other)

  -- a version that is found for the moment is this one
  found_is : (row : VersionRow) → find (had_life file moment) w.versions ≡ Some row → (row ≡ life.row) × (row_of w file life.row.number ≡ Some row)
  found_is row found = grind (arith, nat_tests, k.holds Versions, found_passes, row_of, all-found, all_found, only)

  held_reads : is_held w file life.row.number ≡ true → version_living w.versions file moment ≡ Ok life.row
  held_reads held = grind (arith, nat_tests, found_is, here, all-found (is_version file life.row.number) (λ row. had_life file moment row ≡ false) w.versions, all-not_found (had_life file moment) w.versions, found_passes (is_version file life.row.number) w.versions) where
    here : row_of w file life.row.number ≡ Some life.row
    here = grind (arith, s.held file life.row.number, life.stood, first_passing (is_version file life.row.number) w.versions held)

  gone_forgotten : is_held w file life.row.number ≡ false → (before : Option ℕ) × (version_living w.versions file moment ≡ Err (Forgotten before))
  gone_forgotten gone = (last_number (had_closed file moment) w.versions, grind (arith, nat_tests, found_is, any-found (is_version file life.row.number) (is_version file life.row.number) w.versions life.row, found_passes (is_version file life.row.number) w.versions life.row, false≢true))

  has_one_life : HasOneLife first events file moment
  has_one_life = record { row = life.row; stood = life.stood; lived = life.lived; only = only; held = held_reads; gone = gone_forgotten }

-- a version is found by its own number
stood_numbered : (w : World) (events : List Event) (file number : ℕ) (row : VersionRow) → last_stood w events file number ≡ Some row → row.number ≡ number
stood_numbered w [] file number row stood = grind (arith, nat_tests, found_passes (is_version file number) w.versions row)
stood_numbered w (event ∷ events) file number row stood = grind (arith, nat_tests, found_passes (is_version file number) w.versions row, stood_numbered ((step w event).1) events file number row)

module _ (first : World) (events : List Event) (are : AllByRecursion IsEvent events) (k : HasParts first) where
  abbrev known : Known
  known = last_stood first events

  s : AreKnown first.now (run_of first events) known
  s = ever_known first events are k

  of_life : (file moment : ℕ) → HadLife known file moment → HasOneLife first events file moment
  of_life file moment = has_one_life first events (run_keeps first events are k) s file moment

  lives_from : HasLivesFrom first events
  lives_from = record {
    stood = λ file number moment row stood lived. of_life file moment (record { row = row; stood = ap (known file) (stood_numbered first events file number row stood) ∙ stood; lived = lived });
    named = all-weaker (IsCovered first.now known) (NamesOneLifeFrom first events) (run_of first events).names (λ name h file moment own covered from. of_life file moment (h file moment own covered from)) s.covered;
  }

pub one_life_from : PoliciesAreLawful → OneLifeFrom
one_life_from law first events k are = lives_from first events are (in_parts law first k)

pub one_life : PoliciesAreLawful → OneLife
one_life law limits events bounds are =
    let first = fresh_world limits in
    all-weaker (NamesOneLifeFrom first events) (NamesOneLife first events) (run_of first events).names (λ name h file moment own covered. h file moment own covered (omega arith))
    (lives_from first events are (in_parts law first (fresh_is limits bounds))).named
