-- What changed between two moments, by what look-ups with these find.
use Rattle.ele_changes.proofs.Basics.{Bool, List, None, Option, Some, [], any-filter_map, any-found, ap, arith, bytes_eq-Decides, false, find, find-filter_both, found_passes, list_any, nat_tests, not, option_map, option_map_or, refl, sym, true, ℕ, ◌&&◌, ◌==◌, ◌||◌, ◌∙◌, ◌∷◌, ◌≡◌}
use Rattle.std.specs.Prelude.{if◌then◌else◌}
use Rattle.ele_lists.proofs.Cuts.{any-found as one_found}
use Rattle.ele_changes.specs.BothMoments.{BothMoments, TellsBoth, gains, is_found, is_it, keeps, loses}
use Rattle.ele_changes.specs.Changes.{change_by, change_of, changes_between, may_differ, told}
use Rattle.ele_changes.specs.Names.{gained_name, is_first, is_name_of, is_only_at, is_same_name, is_there, lost_name, name_among, only_at, other_name}
use Rattle.ele_changes.specs.declared.change.Change.{Change}
use Rattle.ele_changes.specs.declared.change.Span.{Span}
use Rattle.ele_changes.specs.declared.told.NameChange.{NameChange}
use Rattle.ele_changes.specs.declared.told.NameChange.TheVariants.{Gained, Kept, Lost, Moved}
use Rattle.ele_model.specs.declared.rows.NameRow.{NameRow}
use Rattle.ele_model.specs.declared.rows.Target.{Target}
use Rattle.ele_model.specs.declared.rows.Target.TheVariants.{File, Directory}
use Rattle.ele_model.specs.NameRows.{covers, is_target_directory}
use Rattle.ele_model.specs.World.{World, is_target_file}

-- ---- tests

bool_same : (a b : Bool) → (a ≡ true → b ≡ true) → (b ≡ true → a ≡ true) → a ≡ b
bool_same true b to from = sym (to refl)
bool_same false true to from = from refl
bool_same false false to from = refl

and_left : (a b : Bool) → (a && b) ≡ true → a ≡ true
and_left true b is = refl
and_left false b is = absurd cc

and_right : (a b : Bool) → (a && b) ≡ true → b ≡ true
and_right true b is = is
and_right false b is = absurd cc

or_left : (a b : Bool) → (a || b) ≡ false → a ≡ false
or_left false b none = refl
or_left true b none = absurd cc

or_right : (a b : Bool) → (a || b) ≡ false → b ≡ false
or_right false b none = none
or_right true b none = absurd cc

not_true : (a : Bool) → not a ≡ true → a ≡ false
not_true false is = refl
not_true true is = absurd cc

-- ---- the same name

-- two rows of one name
record Same (name row : NameRow) : Type 0 where
  directory : row.directory ≡ name.directory
  bytes : row.name ≡ name.name
  target : row.target ≡ name.target

target_same : (target other : Target) (row : NameRow) → row.target ≡ other → is_name_of target row ≡ true → other ≡ target
target_same (File id) (File file) row at is = grind (arith, nat_tests)
target_same (File id) (Directory directory) row at is = absurd (let never = rw at at is in cc)
target_same (Directory id) (File file) row at is = absurd (let never = rw at at is in cc)
target_same (Directory id) (Directory directory) row at is = grind (arith, nat_tests)

are_same : (name row : NameRow) → is_same_name name row ≡ true → Same name row
are_same name row is = record {
  directory = grind (arith, nat_tests);
  bytes = grind (arith, nat_tests, bytes_eq-Decides);
  target = target_same name.target row.target row refl (grind (arith, nat_tests));
}

target_of_same : (target : Target) (row : NameRow) → row.target ≡ target → is_name_of target row ≡ true
target_of_same (File id) row is = rw is (grind (arith, nat_tests))
target_of_same (Directory id) row is = rw is (grind (arith, nat_tests))

same_self : (row : NameRow) → is_same_name row row ≡ true
same_self row = grind (arith, nat_tests, bytes_eq-Decides, target_of_same row.target row)

-- a row of a name is of the same names as it
same_as : (name row other : NameRow) → Same name row → is_same_name row other ≡ is_same_name name other
same_as name row other same = rw (same.directory, same.bytes, same.target) refl

-- ---- what a look-up finds

any_same : (p q : NameRow → Bool) (rows : List NameRow) → ((row : NameRow) → p row ≡ q row) → list_any p rows ≡ list_any q rows
any_same p q [] same = refl
any_same p q (row ∷ rows) same = rw (same row, any_same p q rows same) refl

there_is : (moment : ℕ) (rows : List NameRow) (name row : NameRow) → Same name row → is_there moment rows row ≡ (covers moment row || is_found moment rows name)
there_is moment rows name row same =
    ap (λ (found : Bool). covers moment row || found) (any_same (λ other. covers moment other && is_same_name row other) (λ other. covers moment other && is_same_name name other) rows
    (λ other. ap (λ (is : Bool). covers moment other && is) (same_as name row other same)))

-- a row that covers the moment is found
found_by : (moment : ℕ) (rows : List NameRow) (name row : NameRow) (p : NameRow → Bool) → find p rows ≡ Some row → covers moment row ≡ true → is_same_name name row ≡ true → is_found moment rows name ≡ true
found_by moment rows name row p found at is = any-found p (λ other. covers moment other && is_same_name name other) rows row found (rw (at, is) refl)

-- and what is found has a row
row_of : (moment : ℕ) (rows : List NameRow) (name : NameRow) → is_found moment rows name ≡ true
    → (row : NameRow) × (find (λ other. covers moment other && is_same_name name other) rows ≡ Some row) × (covers moment row ≡ true) × (is_same_name name row ≡ true)
row_of moment rows name is =
    let at = one_found (λ other. covers moment other && is_same_name name other) rows is in
    let passes = found_passes (λ other. covers moment other && is_same_name name other) rows at.0 at.1 in
    (at.0, at.1, and_left (covers moment at.0) (is_same_name name at.0) passes, and_right (covers moment at.0) (is_same_name name at.0) passes)

-- a row that is at one moment alone: the look-up of that moment finds its name, and that of the other doesn't
module _ (here there : ℕ) (rows : List NameRow) where
  only_covers : (row : NameRow) → is_only_at here there rows row ≡ true → covers here row ≡ true
  only_covers row only = and_left (covers here row) (not (is_there there rows row)) only

  only_there : (row : NameRow) → is_only_at here there rows row ≡ true → is_there there rows row ≡ false
  only_there row only = not_true (is_there there rows row) (and_right (covers here row) (not (is_there there rows row)) only)

  from_only : (name row : NameRow) (p : NameRow → Bool) → find p rows ≡ Some row → is_only_at here there rows row ≡ true → is_same_name name row ≡ true
      → (is_found here rows name ≡ true) × (is_found there rows name ≡ false)
  from_only name row p found only is = (
    found_by here rows name row p found (only_covers row only) is,
    or_right (covers there row) (is_found there rows name) (sym (there_is there rows name row (are_same name row is)) ∙ only_there row only),
  )

  to_only : (name row : NameRow) (p : NameRow → Bool) → find p rows ≡ Some row → covers here row ≡ true → is_same_name name row ≡ true → is_found there rows name ≡ false
      → is_only_at here there rows row ≡ true
  to_only name row p found at is none = rw (at, there_is there rows name row (are_same name row is), none) (by (covers there row) refl) where
    by : (b : Bool) → covers there row ≡ b → not (b || false) ≡ true
    by false e = refl
    by true e = absurd (let never = sym none ∙ found_by there rows name row p found e is in cc)

  -- it isn't at the other moment alone
  not_both : (row : NameRow) → is_only_at here there rows row ≡ true → is_only_at there here rows row ≡ false
  not_both row only = rw (only_there_covers row only) refl where
    only_there_covers : (row : NameRow) → is_only_at here there rows row ≡ true → covers there row ≡ false
    only_there_covers row only = or_left (covers there row) (list_any (λ other. covers there other && is_same_name row other) rows) (only_there row only)

-- ---- names that belong together

other_is : (own others : List NameRow) (row other : NameRow) → other_name own others row ≡ Some other → (is_first own row ≡ true) × (name_among others row.target ≡ Some other)
other_is own others row other is = by (is_first own row) refl is where
  by : (b : Bool) → is_first own row ≡ b → (if b then name_among others row.target else None) ≡ Some other → (is_first own row ≡ true) × (name_among others row.target ≡ Some other)
  by true e h = (e, h)
  by false e h = absurd cc

first_is : (rows : List NameRow) (row : NameRow) → is_first rows row ≡ true → (old : NameRow) × (name_among rows row.target ≡ Some old) × (is_same_name row old ≡ true)
first_is rows row is = by (name_among rows row.target) refl is where
  by : (o : Option NameRow) → name_among rows row.target ≡ o → option_map_or (is_same_name row) o false ≡ true → (old : NameRow) × (name_among rows row.target ≡ Some old) × (is_same_name row old ≡ true)
  by (Some old) e h = (old, e, h)
  by None e h = absurd cc

-- of the first names of a target at two moments each is the other of the other
back_is : (own others : List NameRow) (target : Target) (other old : NameRow) → other.target ≡ target → name_among own target ≡ Some other → name_among others target ≡ Some old → other_name own others other ≡ Some old
back_is own others target other old is here there = rw first (ap (λ (t : Target). name_among others t) is ∙ there) where
  own_first : name_among own other.target ≡ Some other
  own_first = ap (λ (t : Target). name_among own t) is ∙ here

  first : is_first own other ≡ true
  first = rw own_first (same_self other)

-- one of the names that are at one moment alone
record Among (here there : ℕ) (rows : List NameRow) (target : Target) (row : NameRow) : Type 0 where
  found : find (λ other. is_only_at here there rows other && is_name_of target other) rows ≡ Some row
  only : is_only_at here there rows row ≡ true
  named : is_name_of target row ≡ true

among_is : (here there : ℕ) (rows : List NameRow) (target : Target) (row : NameRow) → name_among (only_at here there rows) target ≡ Some row → Among here there rows target row
among_is here there rows target row is =
    let found = sym (find-filter_both (is_name_of target) (is_only_at here there rows) rows) ∙ is in
    let passes = found_passes (λ other. is_only_at here there rows other && is_name_of target other) rows row found in
    record { found = found; only = and_left (is_only_at here there rows row) (is_name_of target row) passes; named = and_right (is_only_at here there rows row) (is_name_of target row) passes }

-- ---- the changes

-- which row of a name tells a change that passes a test
abbrev tells : World → Span → (Change → Bool) → NameRow → Bool
tells w span passes row = option_map_or passes (change_by w span (only_at span.first span.second w.names) (only_at span.second span.first w.names) row) false

-- the cases of a row, with what is known in each
data Cases (w : World) (span : Span) (passes : Change → Bool) (row : NameRow) : Type 0 where
  loses_it : is_only_at span.first span.second w.names row ≡ true → passes (change_of w span (Lost row)) ≡ true → Cases w span passes row
  gains_it : is_only_at span.second span.first w.names row ≡ true → passes (change_of w span (Gained row)) ≡ true → Cases w span passes row
  moves_it : (old : NameRow) → is_only_at span.second span.first w.names row ≡ true → Among span.first span.second w.names row.target old
      → passes (change_of w span (Moved old row)) ≡ true → Cases w span passes row
  keeps_it : is_only_at span.first span.second w.names row ≡ false → covers span.first row ≡ true → may_differ w.versions span row.target ≡ true
      → passes (change_of w span (Kept row)) ≡ true → Cases w span passes row

cases_of : (w : World) (span : Span) (passes : Change → Bool) (row : NameRow) → tells w span passes row ≡ true → Cases w span passes row
cases_of w span passes row is = by (is_only_at span.first span.second w.names row) refl is where
  lost : List NameRow
  lost = only_at span.first span.second w.names

  gained : List NameRow
  gained = only_at span.second span.first w.names

  if_lost : (o : Option NameRow) → is_only_at span.first span.second w.names row ≡ true → option_map_or passes (option_map (change_of w span) (lost_name row o)) false ≡ true → Cases w span passes row
  if_lost None only h = loses_it only h
  if_lost (Some other) only h = absurd cc

  if_gained : (o : Option NameRow) → other_name gained lost row ≡ o → is_only_at span.second span.first w.names row ≡ true → option_map_or passes (option_map (change_of w span) (gained_name row o)) false ≡ true
      → Cases w span passes row
  if_gained None e only h = gains_it only h
  if_gained (Some old) e only h = moves_it old only (among_is span.first span.second w.names row.target old ((other_is gained lost row old e).1)) h

  if_kept : (covered differs : Bool) → is_only_at span.first span.second w.names row ≡ false → covers span.first row ≡ covered → may_differ w.versions span row.target ≡ differs
      → option_map_or passes (option_map (change_of w span) (if covered && differs then Some (Kept row) else None)) false ≡ true → Cases w span passes row
  if_kept true true only at may h = keeps_it only at may h
  if_kept true false only at may h = absurd cc
  if_kept false differs only at may h = absurd cc

  if_other : (b : Bool) → is_only_at span.second span.first w.names row ≡ b → is_only_at span.first span.second w.names row ≡ false
      → option_map_or passes (option_map (change_of w span) (if b then gained_name row (other_name gained lost row) else if covers span.first row && may_differ w.versions span row.target then Some (Kept row) else None)) false ≡ true
      → Cases w span passes row
  if_other true e only h = if_gained (other_name gained lost row) refl e h
  if_other false e only h = if_kept (covers span.first row) (may_differ w.versions span row.target) only refl refl h

  by : (b : Bool) → is_only_at span.first span.second w.names row ≡ b
      → option_map_or passes (option_map (change_of w span) (if b then lost_name row (other_name lost gained row) else if is_only_at span.second span.first w.names row then gained_name row (other_name gained lost row) else if covers span.first row && may_differ w.versions span row.target then Some (Kept row) else None)) false ≡ true
      → Cases w span passes row
  by true e h = if_lost (other_name lost gained row) e h
  by false e h = if_other (is_only_at span.second span.first w.names row) refl e h

-- a row that tells such a change
told_by : (w : World) (span : Span) (passes : Change → Bool) → list_any passes (changes_between w span) ≡ true
    → (row : NameRow) × (find (tells w span passes) w.names ≡ Some row) × Cases w span passes row
told_by w span passes any =
    let at = one_found (tells w span passes) w.names (sym (any-filter_map passes (change_by w span (only_at span.first span.second w.names) (only_at span.second span.first w.names)) w.names) ∙ any) in
    (at.0, at.1, cases_of w span passes at.0 (found_passes (tells w span passes) w.names at.0 at.1))

-- and the other way round
tells_it : (w : World) (span : Span) (passes : Change → Bool) (p : NameRow → Bool) (row : NameRow) → find p w.names ≡ Some row → tells w span passes row ≡ true → list_any passes (changes_between w span) ≡ true
tells_it w span passes p row found is =
    any-filter_map passes (change_by w span (only_at span.first span.second w.names) (only_at span.second span.first w.names)) w.names ∙ any-found p (tells w span passes) w.names row found is

and_not : (a b : Bool) → (a ≡ true) × (b ≡ false) → (a && not b) ≡ true
and_not true false is = refl
and_not true true is = absurd (let never = is.1 in cc)
and_not false b is = absurd (let never = is.0 in cc)

of_and_not : (a b : Bool) → (a && not b) ≡ true → (a ≡ true) × (b ≡ false)
of_and_not true false is = (refl, refl)
of_and_not true true is = absurd cc
of_and_not false b is = absurd cc

self_not : (a : Bool) → (a && not a) ≡ true → ⊥
self_not true is = absurd cc
self_not false is = absurd cc

-- ---- names that are lost

lost_found : (w : World) (span : Span) (name : NameRow) → list_any (loses name) (changes_between w span) ≡ true → (is_found span.first w.names name ≡ true) × (is_found span.second w.names name ≡ false)
lost_found w span name any = let told = told_by w span (loses name) any in by told.0 told.1 told.2 where
  by : (row : NameRow) → find (tells w span (loses name)) w.names ≡ Some row → Cases w span (loses name) row → (is_found span.first w.names name ≡ true) × (is_found span.second w.names name ≡ false)
  by row found (loses_it only is) = from_only span.first span.second w.names name row (tells w span (loses name)) found only (and_left (is_same_name name row) true is)
  by row found (gains_it only is) = absurd cc
  by row found (moves_it old only among is) =
      from_only span.first span.second w.names name old (λ other. is_only_at span.first span.second w.names other && is_name_of row.target other) among.found among.only (and_left (is_same_name name old) (not (is_same_name name row)) is)
  by row found (keeps_it only at may is) = absurd (self_not (is_same_name name row) is)

found_lost : (w : World) (span : Span) (name : NameRow) → is_found span.first w.names name ≡ true → is_found span.second w.names name ≡ false → list_any (loses name) (changes_between w span) ≡ true
found_lost w span name is none = by (other_name lost gained row) refl where
  lost : List NameRow
  lost = only_at span.first span.second w.names

  gained : List NameRow
  gained = only_at span.second span.first w.names

  at : (row : NameRow) × (find (λ other. covers span.first other && is_same_name name other) w.names ≡ Some row) × (covers span.first row ≡ true) × (is_same_name name row ≡ true)
  at = row_of span.first w.names name is

  row : NameRow
  row = at.0

  only : is_only_at span.first span.second w.names row ≡ true
  only = to_only span.first span.second w.names name row (λ other. covers span.first other && is_same_name name other) at.1 at.2 at.3 none

  alone : other_name lost gained row ≡ None → tells w span (loses name) row ≡ true
  alone e = rw (only, e, at.3) refl

  unlike : (other : NameRow) → Among span.second span.first w.names row.target other → is_same_name name other ≡ false
  unlike other among = by (is_same_name name other) refl where
    by : (b : Bool) → is_same_name name other ≡ b → b ≡ false
    by false e = refl
    by true e = absurd (let never = sym none ∙ found_by span.second w.names name other (λ x. is_only_at span.second span.first w.names x && is_name_of row.target x) among.found (only_covers span.second span.first w.names other among.only) e in cc)

  beside : (other : NameRow) → other_name lost gained row ≡ Some other → list_any (loses name) (changes_between w span) ≡ true
  beside other e =
      let both = other_is lost gained row other e in
      let first = first_is lost row both.0 in
      let among = among_is span.second span.first w.names row.target other both.1 in
      let target = target_same row.target other.target other refl among.named in
      let back : other_name gained lost other ≡ Some first.0 = back_is gained lost row.target other first.0 target both.1 first.1 in
      let same : is_same_name name first.0 ≡ true = sym (same_as name row first.0 (are_same name row at.3)) ∙ first.2 in
      tells_it w span (loses name) (λ x. is_only_at span.second span.first w.names x && is_name_of row.target x) other among.found
      (rw (not_both span.second span.first w.names other among.only, among.only, back, same, unlike other among) refl)

  by : (o : Option NameRow) → other_name lost gained row ≡ o → list_any (loses name) (changes_between w span) ≡ true
  by None e = tells_it w span (loses name) (λ other. covers span.first other && is_same_name name other) row at.1 (alone e)
  by (Some other) e = beside other e

-- ---- names that are gained

gained_found : (w : World) (span : Span) (name : NameRow) → list_any (gains name) (changes_between w span) ≡ true → (is_found span.second w.names name ≡ true) × (is_found span.first w.names name ≡ false)
gained_found w span name any = let told = told_by w span (gains name) any in by told.0 told.1 told.2 where
  by : (row : NameRow) → find (tells w span (gains name)) w.names ≡ Some row → Cases w span (gains name) row → (is_found span.second w.names name ≡ true) × (is_found span.first w.names name ≡ false)
  by row found (loses_it only is) = absurd cc
  by row found (gains_it only is) = from_only span.second span.first w.names name row (tells w span (gains name)) found only (and_left (is_same_name name row) true is)
  by row found (moves_it old only among is) = from_only span.second span.first w.names name row (tells w span (gains name)) found only (and_left (is_same_name name row) (not (is_same_name name old)) is)
  by row found (keeps_it only at may is) = absurd (self_not (is_same_name name row) is)

found_gained : (w : World) (span : Span) (name : NameRow) → is_found span.second w.names name ≡ true → is_found span.first w.names name ≡ false → list_any (gains name) (changes_between w span) ≡ true
found_gained w span name is none =
    tells_it w span (gains name) (λ other. covers span.second other && is_same_name name other) row at.1 (by (other_name gained lost row) refl) where
      lost : List NameRow
      lost = only_at span.first span.second w.names

      gained : List NameRow
      gained = only_at span.second span.first w.names

      at : (row : NameRow) × (find (λ other. covers span.second other && is_same_name name other) w.names ≡ Some row) × (covers span.second row ≡ true) × (is_same_name name row ≡ true)
      at = row_of span.second w.names name is

      row : NameRow
      row = at.0

      only : is_only_at span.second span.first w.names row ≡ true
      only = to_only span.second span.first w.names name row (λ other. covers span.second other && is_same_name name other) at.1 at.2 at.3 none

      unlike : (old : NameRow) → Among span.first span.second w.names row.target old → is_same_name name old ≡ false
      unlike old among = by (is_same_name name old) refl where
        by : (b : Bool) → is_same_name name old ≡ b → b ≡ false
        by false e = refl
        by true e = absurd (let never = sym none ∙ found_by span.first w.names name old (λ x. is_only_at span.first span.second w.names x && is_name_of row.target x) among.found (only_covers span.first span.second w.names old among.only) e in cc)

      by : (o : Option NameRow) → other_name gained lost row ≡ o → tells w span (gains name) row ≡ true
      by None e = rw (not_both span.second span.first w.names row only, only, e, at.3) refl
      by (Some old) e =
          let among = among_is span.first span.second w.names row.target old ((other_is gained lost row old e).1) in
          rw (not_both span.second span.first w.names row only, only, e, at.3, unlike old among) refl

-- ---- names that are kept

kept_found : (w : World) (span : Span) (name : NameRow) → list_any (keeps name) (changes_between w span) ≡ true
    → ((is_found span.first w.names name && is_found span.second w.names name) && may_differ w.versions span name.target) ≡ true
kept_found w span name any = let told = told_by w span (keeps name) any in by told.0 told.1 told.2 where
  second_found : (row : NameRow) → find (tells w span (keeps name)) w.names ≡ Some row → is_only_at span.first span.second w.names row ≡ false → covers span.first row ≡ true → is_same_name name row ≡ true → is_found span.second w.names name ≡ true
  second_found row found only at is = by (is_found span.second w.names name) refl where
    by : (b : Bool) → is_found span.second w.names name ≡ b → b ≡ true
    by true e = refl
    by false e = absurd (let never = sym only ∙ to_only span.first span.second w.names name row (tells w span (keeps name)) found at is e in cc)

  by : (row : NameRow) → find (tells w span (keeps name)) w.names ≡ Some row → Cases w span (keeps name) row
      → ((is_found span.first w.names name && is_found span.second w.names name) && may_differ w.versions span name.target) ≡ true
  by row found (loses_it only is) = absurd (let never = and_right (is_same_name name row) false is in cc)
  by row found (gains_it only is) = absurd cc
  by row found (moves_it old only among is) =
      let lost = from_only span.first span.second w.names name old (λ other. is_only_at span.first span.second w.names other && is_name_of row.target other) among.found among.only (and_left (is_same_name name old) (is_same_name name row) is) in
      let gained = from_only span.second span.first w.names name row (tells w span (keeps name)) found only (and_right (is_same_name name old) (is_same_name name row) is) in
      absurd (let never = sym lost.1 ∙ gained.0 in cc)
  by row found (keeps_it only at may is) =
      let same = and_left (is_same_name name row) (is_same_name name row) is in
      rw (found_by span.first w.names name row (tells w span (keeps name)) found at same, second_found row found only at same, sym (are_same name row same).target) may

found_kept : (w : World) (span : Span) (name : NameRow) → is_found span.first w.names name ≡ true → is_found span.second w.names name ≡ true → may_differ w.versions span name.target ≡ true
    → list_any (keeps name) (changes_between w span) ≡ true
found_kept w span name is too may =
    tells_it w span (keeps name) (λ other. covers span.first other && is_same_name name other) row at.1 (rw (not_lost, not_gained, at.2, differs, at.3) refl) where
      at : (row : NameRow) × (find (λ other. covers span.first other && is_same_name name other) w.names ≡ Some row) × (covers span.first row ≡ true) × (is_same_name name row ≡ true)
      at = row_of span.first w.names name is

      row : NameRow
      row = at.0

      same : Same name row
      same = are_same name row at.3

      differs : may_differ w.versions span row.target ≡ true
      differs = rw same.target may

      not_lost : is_only_at span.first span.second w.names row ≡ false
      not_lost = by (is_only_at span.first span.second w.names row) refl where
        by : (b : Bool) → is_only_at span.first span.second w.names row ≡ b → b ≡ false
        by false e = refl
        by true e = absurd (let never = sym ((from_only span.first span.second w.names name row (λ other. covers span.first other && is_same_name name other) at.1 e at.3).1) ∙ too in cc)

      not_gained : is_only_at span.second span.first w.names row ≡ false
      not_gained = by (is_only_at span.second span.first w.names row) refl where
        by : (b : Bool) → is_only_at span.second span.first w.names row ≡ b → b ≡ false
        by false e = refl
        by true e = absurd (let never = sym ((from_only span.second span.first w.names name row (λ other. covers span.first other && is_same_name name other) at.1 e at.3).1) ∙ is in cc)

-- ---- the law

three : (a b c : Bool) → ((a && b) && c) ≡ true → (a ≡ true) × (b ≡ true) × (c ≡ true)
three true true true is = (refl, refl, refl)
three true true false is = absurd cc
three true false c is = absurd cc
three false b c is = absurd cc

pub both_moments : BothMoments
both_moments = λ w span name. record {
  lost = bool_same (list_any (loses name) (changes_between w span)) (is_found span.first w.names name && not (is_found span.second w.names name))
      (λ any. and_not (is_found span.first w.names name) (is_found span.second w.names name) (lost_found w span name any))
      (λ is. let both = of_and_not (is_found span.first w.names name) (is_found span.second w.names name) is in found_lost w span name both.0 both.1);
  gained = bool_same (list_any (gains name) (changes_between w span)) (is_found span.second w.names name && not (is_found span.first w.names name))
      (λ any. and_not (is_found span.second w.names name) (is_found span.first w.names name) (gained_found w span name any))
      (λ is. let both = of_and_not (is_found span.second w.names name) (is_found span.first w.names name) is in found_gained w span name both.0 both.1);
  kept = bool_same (list_any (keeps name) (changes_between w span)) ((is_found span.first w.names name && is_found span.second w.names name) && may_differ w.versions span name.target)
      (kept_found w span name)
      (λ is. let all = three (is_found span.first w.names name) (is_found span.second w.names name) (may_differ w.versions span name.target) is in found_kept w span name all.0 all.1 all.2);
}
