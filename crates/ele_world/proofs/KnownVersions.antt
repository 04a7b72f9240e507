-- What a history knows of versions: those that are held, and those that were removed as they last were; at each moment from its
-- start on that a name covers a version of its file lived. A change keeps that.
use Rattle.ele_model.proofs.Basics.{◌≡◌, ℕ, ◌-◌, ◌<◌, ◌≤◌, true, false, List, [], Option, Some, None, refl, ap, sym, subst, ◌∙◌, arith, find, AllByRecursion, option_or, false≢true, nat_tests, all-found, find-insert_before, find-inserted, not_found, remove_first, all-not_found, all-remove_first, all-weaker, found_passes, AllLater, ◌++◌, ◌∷◌, list_any, cases_lt, update_first, all-filter, all-both, all-push}
use Rattle.ele_model.proofs.Words.{Cell, version_cells, Change, Time, EndFileName, Revive, MakeFile, Append, Take, DropIdle, after_change, ended_at, next_version, with_end, with_file, with_name, with_version, covers, lives_at, ArePlaced, IsVersion, Versions, HasParts, World, is_live, is_version, is_version_after, next_of, MakeDirectory, EndName, AddName, MoveName, born_row, dies, is_live_name, IsNameRow, Names, is_live_name_of}
use Rattle.ele_world.proofs.Words.{Event, NameRow, File, VersionRow, Target, Directory}
use Rattle.ele_model.proofs.Dropped.{dropped, dropped_versions, stays_named}
use Rattle.ele_model.proofs.May.{MayBy}
use Rattle.ele_headline.proofs.HeldRows.{IsBehind, IsPast, change_past, Moves, row_of, found_updated, Same, Ended, Taken, change_moves}
use Rattle.ele_headline.proofs.HeldStays.{held_past}
use Rattle.ele_model.proofs.Versions.{IsEndedBy, other_ended}
use Rattle.ele_model.proofs.Currents.{has_current}
use Rattle.ele_model.proofs.KeptRevived.{numbered_is}
use Rattle.ele_model.proofs.NameParts.{still_none}

-- each version that closed, as it last was
abbrev pub Known : Type 0
Known = (file number : ℕ) → Option VersionRow

-- as it is held, or else as it was known before
abbrev pub known_in : World → Known → Known
known_in w before file number = option_or (row_of w file number) (before file number)

-- a version of the file that lived at the moment
pub record HadLife (known : Known) (file moment : ℕ) : Type 0 where
  pub row : VersionRow
  pub stood : known file row.number ≡ Some row
  pub lived : lives_at moment row ≡ true

-- there is one if the moment is one from the start on
abbrev pub LifeFrom : ℕ → Known → (file moment : ℕ) → Type 0
LifeFrom start known file moment = start ≤ moment → HadLife known file moment

-- there is one at each such moment that the name covers
abbrev pub IsCovered : ℕ → Known → NameRow → Type 0
IsCovered start known name = (file moment : ℕ) → name.target ≡ File file → covers moment name ≡ true → LifeFrom start known file moment

-- a version that isn't held any more had ended, and its number isn't given again
pub record IsGone (w : World) (file number : ℕ) (row : VersionRow) : Type 0 where
  pub ended : IsEndedBy w.now row
  pub past : IsPast w file number

pub record AreKnown (start : ℕ) (w : World) (known : Known) : Type 0 where
  pub held : (file number : ℕ) (row : VersionRow) → row_of w file number ≡ Some row → known file number ≡ Some row
  pub gone : (file number : ℕ) (row : VersionRow) → row_of w file number ≡ None → known file number ≡ Some row → IsGone w file number row
  pub placed : (file number later : ℕ) (row next : VersionRow) → known file number ≡ Some row → known file later ≡ Some next → number < later → IsEndedBy next.closed row
  pub covered : AllByRecursion (IsCovered start known) w.names

pub or_none : (o : Option VersionRow) → o ≡ option_or o None
or_none o = grind (arith, nat_tests)

-- ---- a version that is held

pub record IsHeldRow (w : World) (file number : ℕ) (row : VersionRow) : Type 0 where
  pub own : row.file ≡ file
  pub numbered : row.number ≡ number
  pub is : IsVersion w.files w.now row

pub held_row : (w : World) (file number : ℕ) (row : VersionRow) → HasParts w → row_of w file number ≡ Some row → IsHeldRow w file number row
held_row w file number row k found = grind (arith, nat_tests, k.holds Versions, found_passes, all-found)

found_past : (w : World) (file number : ℕ) (row : VersionRow) → HasParts w → row_of w file number ≡ Some row → IsPast w file number
found_past w file number row k found = grind (arith, nat_tests, held_row w file number row k found, held_past w row k)

known_past : (start : ℕ) (w : World) (known : Known) (file number : ℕ) (row : VersionRow) → HasParts w → AreKnown start w known → known file number ≡ Some row → IsPast w file number
known_past start w known file number row k s is = grind (arith, nat_tests, s.gone file number row, found_past w file number)

-- ---- what becomes of a version

-- it is the same, or it ended at the moment
pub record IsOn (now : ℕ) (old row : VersionRow) : Type 0 where
  pub closed : row.closed ≡ old.closed
  pub number : row.number ≡ old.number
  pub ended : (at : ℕ) → IsEndedBy at old → IsEndedBy at row
  pub lives : (moment : ℕ) → moment < now → lives_at moment old ≡ true → lives_at moment row ≡ true

pub record Becomes (now : ℕ) (old : VersionRow) (found : Option VersionRow) : Type 0 where
  pub row : VersionRow
  pub is : found ≡ Some row
  pub on : IsOn now old row

-- a version that a change brings closes then
module _ (file number : ℕ) (row : VersionRow) where
  ended_closes : (w : World) (of : ℕ) → row_of w file number ≡ None → find (is_version file number) (with_end w of) ≡ None
  ended_closes w of none = grind (arith, found_updated (is_version of (next_of w.files of - 1)) (is_version file number) (ended_at w.now) w.versions)

  new_closes : (w : World) (of opened : ℕ) (cells : List Cell) → row_of w file number ≡ None → row_of (with_version w of opened cells) file number ≡ Some row → row.closed ≡ w.now
  new_closes w of opened cells none found = grind (arith, nat_tests, find-insert_before (is_version_after of (next_of w.files of)) (is_version file number) (next_version w of opened cells) (with_end w of), find-inserted (is_version_after of (next_of w.files of)) (is_version file number) (next_version w of opened cells) (with_end w of), all-not_found (is_version file number) (with_end w of), ended_closes w of none)

  change_closes : (w : World) (change : Change) → row_of w file number ≡ None → row_of (after_change w change) file number ≡ Some row → row.closed ≡ (after_change w change).now
  change_closes w (MakeFile directory name id policy) none found = new_closes (with_name (with_file w id policy) directory name (File id)) id w.now [] none found
  change_closes w (Append of opened cells) none found = new_closes w of opened cells none found
  change_closes w (Revive directory name of again) none found = new_closes (with_name w directory name (File of)) of w.now (version_cells w of again) none found
  change_closes w (EndFileName directory name of) none found = grind (arith, none, found, ended_closes w of)
  change_closes w (Take of taken) none found = grind (arith, none, found, all-remove_first (is_version of taken) (λ x. is_version file number x ≡ false) w.versions, all-not_found (is_version file number) w.versions, not_found (is_version file number) (remove_first (is_version of taken) w.versions))
  change_closes w (DropIdle of) none found = grind (arith, none, found, dropped_versions w of)
  change_closes w change none found = absurd cc

-- ---- moments before now, and now and later

module _ (now : ℕ) (life : ℕ → ℕ → Type 0) where
  abbrev CoveredBefore : NameRow → Type 0
  CoveredBefore name = (file moment : ℕ) → name.target ≡ File file → covers moment name ≡ true → moment < now → life file moment

  abbrev CoveredFrom : NameRow → Type 0
  CoveredFrom name = (file moment : ℕ) → name.target ≡ File file → covers moment name ≡ true → now ≤ moment → life file moment

  died : (directory : ℕ) (name : List ℕ) (rows : List NameRow) → AllByRecursion CoveredBefore rows → AllByRecursion CoveredBefore (update_first (is_live_name directory name) (dies now) rows)
  died directory name [] all = tt
  died directory name (row ∷ rows) all = grind (arith, nat_tests, false≢true, still_none, died directory name rows all.1)

  born : (directory : ℕ) (name : List ℕ) (target : Target) (rows : List NameRow) → AllByRecursion CoveredBefore rows → AllByRecursion CoveredBefore (rows ++ born_row directory name target now ∷ [])
  born directory name target rows all = all-push CoveredBefore rows (born_row directory name target now) all (λ file moment own covered less. grind (arith, nat_tests))

change_covered : (w : World) (change : Change) (life : ℕ → ℕ → Type 0) → AllByRecursion (CoveredBefore w.now life) w.names → AllByRecursion (CoveredBefore w.now life) (after_change w change).names
change_covered w (MakeDirectory directory name id policy) life all = born w.now life directory name (Directory id) w.names all
change_covered w (EndName directory name) life all = died w.now life directory name w.names all
change_covered w (AddName directory name target) life all = born w.now life directory name target w.names all
change_covered w (MoveName from old to new target) life all = born w.now life to new target (update_first (is_live_name from old) (dies w.now) w.names) (died w.now life from old w.names all)
change_covered w (EndFileName directory name of) life all = died w.now life directory name w.names all
change_covered w (Revive directory name of again) life all = born w.now life directory name (File of) w.names all
change_covered w (MakeFile directory name id policy) life all = born w.now life directory name (File id) w.names all
change_covered w (DropIdle of) life all = dropped (λ v. AllByRecursion (CoveredBefore w.now life) v.names) w of (λ idle. all-filter (CoveredBefore w.now life) (stays_named of) w.names all) (λ busy. all)
change_covered w change life all = all

-- ---- now and later

-- a name that has no death is a live name of its file
counted_live : (rows : List NameRow) → AllByRecursion (λ name. (file : ℕ) → is_live_name_of file name ≡ true → list_any (is_live_name_of file) rows ≡ true) rows
counted_live [] = tt
counted_live (row ∷ rows) = grind (arith, nat_tests, all-weaker, counted_live rows)

current_covers : (w : World) (known : Known) → HasParts w → ((file number : ℕ) (row : VersionRow) → row_of w file number ≡ Some row → known file number ≡ Some row)
    → AllByRecursion (CoveredFrom w.now (HadLife known)) w.names
current_covers w known k held = grind (arith, nat_tests, all-weaker (λ name. IsNameRow w.files w.now name × ((file : ℕ) → is_live_name_of file name ≡ true → is_live w file ≡ true)) (CoveredFrom w.now (HadLife known)) w.names, one, all-both (IsNameRow w.files w.now), (k.holds Names).each, counted_live w.names) where
  life : (file moment : ℕ) → w.now ≤ moment → is_live w file ≡ true → HadLife known file moment
  life file moment late live = grind (arith, nat_tests, k.holds Versions, has_current w file k live, numbered_is w file (next_of w.files file - 1))

  one : (name : NameRow) → IsNameRow w.files w.now name × ((file : ℕ) → is_live_name_of file name ≡ true → is_live w file ≡ true) → CoveredFrom w.now (HadLife known) name
  one name h file moment own covered late = life file moment late (h.1 file (let dead = h.0.dead in grind (arith, nat_tests)))

-- ---- one change

-- so it was known and is the same or ended, or it is new
data From (w u : World) (known : Known) (file number : ℕ) (row : VersionRow) : Type 0 where
  Was : (old : VersionRow) → known file number ≡ Some old → IsOn w.now old row → From w u known file number row
  New : row_of w file number ≡ None → row_of u file number ≡ Some row → row.closed ≡ u.now → From w u known file number row

-- the time never goes back
pub change_later : (event : Event) (first w : World) (change : Change) → MayBy event first w change → w.now ≤ (after_change w change).now
change_later event first w (Time to) may = may.0
change_later event first w (DropIdle of) may = dropped (λ v. w.now ≤ v.now) w of (λ idle. omega arith) (λ busy. omega arith)
change_later event first w change may = omega arith

-- what becomes of a version whose number was given, by what was known of it
data Turned (w : World) (known was is : Option VersionRow) : Type 0 where
  Stays : is ≡ was → Turned w known was is
  Ends : (row : VersionRow) → was ≡ Some row → is ≡ Some (ended_at w.now row) → Turned w known was is
  Goes : (row : VersionRow) → was ≡ Some row → is ≡ None → known ≡ Some row → IsEndedBy w.now row → Turned w known was is

-- a change by an event, in a world whose versions are known
pub record IsTurn (start : ℕ) (event : Event) (first w : World) (change : Change) (before : Known) : Type 0 where
  pub placed : AllLater ArePlaced first.versions
  pub first_held : (file number : ℕ) (row : VersionRow) → row_of first file number ≡ Some row → before file number ≡ Some row
  pub formed : HasParts w
  pub formed_after : HasParts (after_change w change)
  pub may : MayBy event first w change
  pub known : AreKnown start w (known_in w before)

module _ (start : ℕ) (event : Event) (first w : World) (change : Change) (before : Known) (t : IsTurn start event first w change before) where
  abbrev after : World
  after = after_change w change

  turned : (file number : ℕ) → IsPast w file number → Turned w (before file number) (row_of w file number) (row_of after file number)
  turned file number past = by (row_of w file number) (row_of after file number) refl (change_moves event first file number w change t.placed t.may past) where
    by : (o after : Option VersionRow) → row_of w file number ≡ o → Moves event first w.now w.versions file number o after → Turned w (before file number) o after
    by o later e (Same same) = Stays same
    by None later e (Ended ended) = Stays ended
    by (Some row) later e (Ended ended) = Ends row refl ended
    by o later e (Taken v take same none) =
        let found : row_of w file number ≡ Some take.row = ap (find (is_version file number)) (same ∙ take.same) ∙ take.found in
        Goes take.row (sym e ∙ found) none (t.first_held file number take.row take.found) (let is = (held_row w file number take.row t.formed found).is in grind (arith, nat_tests, is, take.ended, false≢true))

  pub becomes : (file number : ℕ) (old : VersionRow) → known_in w before file number ≡ Some old → Becomes w.now old (known_in after before file number)
  becomes file number old is = let past = known_past start w (known_in w before) file number old t.formed t.known is in grind (arith, nat_tests, turned file number past, past)

  from : (file number : ℕ) (row : VersionRow) → known_in after before file number ≡ Some row → From w after (known_in w before) file number row
  from file number row is = by (known_in w before file number) refl where
    by : (o : Option VersionRow) → known_in w before file number ≡ o → From w after (known_in w before) file number row
    by (Some old) e = let next = becomes file number old e in let now = next.is in let same : next.row ≡ row = cc in Was old e (subst (IsOn w.now old) same next.on)
    by None e = let none : (row_of w file number ≡ None) × (row_of after file number ≡ Some row) = grind (arith, e, is) in New none.0 none.1 (change_closes file number row w change none.0 none.1)

  pub gone_known : (file number : ℕ) (row : VersionRow) → row_of after file number ≡ None → known_in after before file number ≡ Some row → IsGone after file number row
  gone_known file number row none is = record { ended = record { ended = was.1.ended; is = was.1.is; by_now = omega (arith, was.1.by_now, change_later event first w change t.may) }; past = change_past event first w change file number t.may was.0 } where
    was : IsPast w file number × IsEndedBy w.now row
    was = by (row_of w file number) refl where
      by : (o : Option VersionRow) → row_of w file number ≡ o → IsPast w file number × IsEndedBy w.now row
      by None e = let gone = t.known.gone file number row e (grind (arith, none, is, e)) in (gone.past, gone.ended)
      by (Some held) e = let past = found_past w file number held t.formed e in (past, grind (arith, none, is, e, turned file number past))

  -- a version before a new one has ended
  before_new : (file number later : ℕ) (row next : VersionRow) → known_in after before file number ≡ Some row → row_of after file later ≡ Some next → number < later → IsEndedBy after.now row
  before_new file number later row next is new less = grind (arith, nat_tests, gone_known file number row, held_row after file number row t.formed_after, held_row after file later next t.formed_after new, other_ended after.files after.now row)

  pub placed_on : (file number later : ℕ) (row next : VersionRow) → known_in after before file number ≡ Some row → known_in after before file later ≡ Some next → number < later → IsEndedBy next.closed row
  placed_on file number later row next is next_is less = by (from file later next next_is) (from file number row is) where
    by : From w after (known_in w before) file later next → From w after (known_in w before) file number row → IsEndedBy next.closed row
    by (New none found closed) from_row = rw closed (before_new file number later row next is found less)
    by (Was old_next e on) (New none found closed) =
        let it = held_row after file number row t.formed_after found in
        let past = known_past start w (known_in w before) file later old_next t.formed t.known e in
        let before : IsPast w file number = record { given = past.given; first = omega (arith, it.numbered, it.is.first); past = all-weaker (IsBehind file later) (IsBehind file number) w.files (λ of behind own. let more = behind own in omega (arith, more, less)) past.past } in
        absurd (grind (arith, nat_tests, none, found, turned file number before))
    by (Was old_next e on) (Was old f on_row) = rw on.closed (on_row.ended old_next.closed (t.known.placed file number later old old_next f e less))

  abbrev afterwards : Known
  afterwards = known_in after before

  abbrev lives : (file moment : ℕ) → Type 0
  lives = LifeFrom start afterwards

  covered_on : (after_change w change).now ≤ w.now → AllByRecursion (IsCovered start afterwards) after.names
  covered_on same = all-weaker (λ name. CoveredBefore w.now lives name × CoveredFrom after.now (HadLife afterwards) name) (IsCovered start afterwards) after.names
      (λ name h file moment own covered from. grind (arith, nat_tests, from, h.0 file moment own covered, h.1 file moment own covered, cases_lt moment w.now))
      (all-both (CoveredBefore w.now lives) (CoveredFrom after.now (HadLife afterwards)) after.names
      (change_covered w change lives (all-weaker (IsCovered start (known_in w before)) (CoveredBefore w.now lives) w.names (λ name h file moment own covered less from. let life = h file moment own covered from in grind (arith, nat_tests, becomes file life.row.number life.row life.stood)) t.known.covered))
      (current_covers after afterwards t.formed_after (λ file number row found. rw found refl)))

-- if the time moves, names and versions stay
all_covered : (start : ℕ) (event : Event) (first w : World) (change : Change) (before : Known) → IsTurn start event first w change before → AllByRecursion (IsCovered start (known_in (after_change w change) before)) (after_change w change).names
all_covered start event first w (Time to) before t = t.known.covered
all_covered start event first w (DropIdle of) before t = covered_on start event first w (DropIdle of) before t (grind (arith))
all_covered start event first w change before t = covered_on start event first w change before t (omega arith)

pub change_known : (start : ℕ) (event : Event) (first w : World) (change : Change) (before : Known) → IsTurn start event first w change before → AreKnown start (after_change w change) (known_in (after_change w change) before)
change_known start event first w change before t = record {
  held = λ file number row found. rw found refl;
  gone = gone_known start event first w change before t;
  placed = placed_on start event first w change before t;
  covered = all_covered start event first w change before t;
}

-- ---- at the start

-- of two held versions of a file the earlier has ended when the later closed
held_placed : (rows : List VersionRow) → AllLater ArePlaced rows → (file number later : ℕ) (row next : VersionRow) → find (is_version file number) rows ≡ Some row → find (is_version file later) rows ≡ Some next → number < later → IsEndedBy next.closed row
held_placed [] placed file number later row next found next_found less = absurd cc
held_placed (x ∷ rows) placed file number later row next found next_found less = grind (arith, nat_tests, found_passes (is_version file number) (x ∷ rows) row found, found_passes (is_version file later) (x ∷ rows) next next_found, all-found (is_version file number) (ArePlaced x) rows row, all-found (is_version file later) (ArePlaced x) rows next, held_placed rows placed.1 file number later row next)

pub known_first : (w : World) → HasParts w → AreKnown w.now w (known_in w (λ file number. None))
known_first w k = record {
  held = λ file number row found. rw found refl;
  gone = λ file number row none is. absurd (grind (arith, none, is));
  placed = λ file number later row next is next_is less. grind (arith, is, next_is, less, held_placed w.versions (k.holds Versions).placed file number later row next);
  covered = current_covers w (known_in w (λ file number. None)) k (λ file number row found. rw found refl);
}
