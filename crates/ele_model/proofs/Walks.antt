-- What a path leads to, the place of its last name, and what an added name changes.
use Rattle.ele_model.proofs.Basics.{◌≡◌, ℕ, suc, zero, ◌+◌, ◌-◌, ◌<◌, true, false, List, [], ◌∷◌, ◌++◌, length, take, Option, Some, None, Result, Ok, Err, refl, sym, get_or, option_map_or, ap, ◌∙◌, arith, find, is_some, nil_from_length, slice_get_within, slice_get, AllByRecursion, list_any}
use Rattle.ele_model.proofs.Basics.{false≢true, nat_tests, find-append, bytes_eq-Decides, all-found, found_passes, any-found}
use Rattle.std.proofs.lemmas.Option.{slice_get-get_or}
use Rattle.ele_model.proofs.Words.{Refusal, FileRow, NameRow, Target, File, Directory, NoEntry, born_row, is_live_name, live_target, walk, walk_now, file_at, file_now, file_standing, directory_now, parent_now, IsNameRow, IsThere, next_of, root, is_live_name_of}

-- ---- what is true of each target of a live name is so of the place that a walk ends at

pub walk_to : (P : Target → Type 0) (rows : List NameRow) → ((directory : ℕ) (name : List ℕ) (target : Target) → live_target rows directory name ≡ Some target → P target)
    → (at target : Target) (names : List (List ℕ)) → P at → walk rows at names ≡ Ok target → P target
walk_to P rows each at target [] so h = let same : at ≡ target = cc in rw (← same) so
walk_to P rows each (File file) target (name ∷ names) so h = absurd cc
walk_to P rows each (Directory directory) target (name ∷ names) so h = grind (arith, nat_tests, each directory name, (λ (next : Target). walk_to P rows each next target names))

-- what is true of the row of each live name's target
pub live_row : (P : Target → Type 0) (rows : List NameRow) (directory : ℕ) (name : List ℕ) (target : Target)
    → ((row : NameRow) → find (is_live_name directory name) rows ≡ Some row → P row.target) → live_target rows directory name ≡ Some target → P target
live_row P rows directory name target each h = grind (arith, nat_tests)

pub file_of : (r : Result Target Refusal) (file : ℕ) → file_at r ≡ Ok file → r ≡ Ok (File file)
file_of r file h = grind (arith, nat_tests)

-- the file at a path is there
pub file_there : (files : List FileRow) (now : ℕ) (rows : List NameRow) (path : List (List ℕ)) (file : ℕ) → AllByRecursion (IsNameRow files now) rows → file_now rows path ≡ Ok file → 0 < next_of files file
file_there files now rows path file all h =
    walk_to (IsThere files) rows (λ directory name target. grind (arith, nat_tests, live_row, all-found)) (Directory root) (File file) path tt (file_of (walk_now rows path) file h)

-- a place whose name stands has its file
pub standing_is : (target : Option Target) (standing : Option ℕ) (file : ℕ) → file_standing target ≡ Ok standing → standing ≡ Some file → target ≡ Some (File file)
standing_is None standing file h is = absurd cc
standing_is (Some (File other)) standing file h is = cc
standing_is (Some (Directory id)) standing file h is = absurd cc

-- and a place whose name doesn't stand is free
pub standing_free : (target : Option Target) (standing : Option ℕ) → file_standing target ≡ Ok standing → standing ≡ None → is_some target ≡ false
standing_free None standing h none = refl
standing_free (Some (File file)) standing h none = absurd cc
standing_free (Some (Directory id)) standing h none = absurd cc

-- the file at a place is there
pub place_there : (files : List FileRow) (now : ℕ) (rows : List NameRow) (directory : ℕ) (name : List ℕ) (file : ℕ) → AllByRecursion (IsNameRow files now) rows → live_target rows directory name ≡ Some (File file) → 0 < next_of files file
place_there files now rows directory name file all = live_row (IsThere files) rows directory name (File file) (λ row found. grind (arith, nat_tests, all-found))

-- it is live
abbrev pub IsLive : List NameRow → Target → Type 0
IsLive rows (File file) = list_any (is_live_name_of file) rows ≡ true
IsLive rows (Directory directory) = Unit {0}

pub target_live : (rows : List NameRow) (directory : ℕ) (name : List ℕ) (target : Target) → live_target rows directory name ≡ Some target → IsLive rows target
target_live rows directory name target = grind (arith, nat_tests, live_row, found_passes, any-found)

-- the file at a path is live
pub file_live : (rows : List NameRow) (path : List (List ℕ)) (file : ℕ) → file_now rows path ≡ Ok file → list_any (is_live_name_of file) rows ≡ true
file_live rows path file h = walk_to (IsLive rows) rows (target_live rows) (Directory root) (File file) path tt (file_of (walk_now rows path) file h)

-- ---- walks after a name is added

pub live_target-push : (rows : List NameRow) (row : NameRow) (directory : ℕ) (name : List ℕ) (target : Target) → live_target rows directory name ≡ Some target → live_target (rows ++ row ∷ []) directory name ≡ Some target
live_target-push rows row directory name target h = grind (arith, nat_tests, find-append)

pub walk-push : (rows : List NameRow) (row : NameRow) (at : Target) (names : List (List ℕ)) (target : Target) → walk rows at names ≡ Ok target → walk (rows ++ row ∷ []) at names ≡ Ok target
walk-push rows row at [] target h = h
walk-push rows row at (name ∷ names) target h = grind (arith, nat_tests, live_target-push, (λ (next : Target). walk-push rows row next names target))

-- a walk goes on from where it led
pub walk-on : (rows : List NameRow) (at target : Target) (names more : List (List ℕ)) → walk rows at names ≡ Ok target → walk rows at (names ++ more) ≡ walk rows target more
walk-on rows at target [] more h = let same : at ≡ target = cc in rw same refl
walk-on rows at target (name ∷ names) more h = grind (arith, nat_tests, (λ (next : Target). walk-on rows next target names more))

-- ---- a path's parent

split-at : {X : Type 0} (xs : List X) (n : ℕ) (x : X) → n + 1 ≡ length xs → slice_get xs n ≡ Some x → xs ≡ take n xs ++ x ∷ []
split-at [] n x is h = absurd cc
split-at (y ∷ ys) zero x is h = grind (arith, nat_tests, nil_from_length)
split-at (y ∷ ys) (suc n) x is h = grind (arith, nat_tests, split-at ys n x)

pub record IsParent (names : List NameRow) (path : List (List ℕ)) (at : ℕ × List ℕ) : Type 0 where
  pub front : List (List ℕ)
  pub taken : front ≡ take (length path - 1) path
  pub whole : path ≡ front ++ at.1 ∷ []
  pub leads : walk_now names front ≡ Ok (Directory at.0)

pub parent_is : (names : List NameRow) (path : List (List ℕ)) (at : ℕ × List ℕ) → parent_now names path ≡ Ok at → IsParent names path at
parent_is names path at h = grind (arith, nat_tests, split-at path (length path - 1), slice_get_within path (length path - 1))

-- the path's last name is that of what the path leads to
pub last_names : (rows : List NameRow) (path : List (List ℕ)) (at : ℕ × List ℕ) (target : Target) → parent_now rows path ≡ Ok at → walk_now rows path ≡ Ok target → live_target rows at.0 at.1 ≡ Some target
last_names rows path at target found leads = grind (arith, nat_tests, parent_is rows path at found, walk-on rows (Directory root) (Directory at.0) (parent_is rows path at found).front (at.1 ∷ []))

pub last_leads : (rows : List NameRow) (path : List (List ℕ)) (at : ℕ × List ℕ) (directory : ℕ) → parent_now rows path ≡ Ok at → directory_now rows path ≡ Ok directory → live_target rows at.0 at.1 ≡ Some (Directory directory)
last_leads rows path at directory found leads = grind (arith, nat_tests, last_names rows path at (Directory directory) found)

-- the path leads to what the name at its place means
pub place_leads : (rows : List NameRow) (path : List (List ℕ)) (at : ℕ × List ℕ) (target : Target) → parent_now rows path ≡ Ok at → live_target rows at.0 at.1 ≡ Some target → walk_now rows path ≡ Ok target
place_leads rows path at target found stands =
    let parent = parent_is rows path at found in
    ap (walk_now rows) parent.whole
    ∙ walk-on rows (Directory root) (Directory at.0) parent.front (at.1 ∷ []) parent.leads
    ∙ rw stands refl

-- a walk goes through the directory of its last name
walk-through : (rows : List NameRow) (at target : Target) (names : List (List ℕ)) (name : List ℕ) → walk rows at (names ++ name ∷ []) ≡ Ok target → (directory : ℕ) × (walk rows at names ≡ Ok (Directory directory)) × (live_target rows directory name ≡ Some target)
walk-through rows (File file) target [] name h = absurd cc
walk-through rows (Directory directory) target [] name h = (directory, refl, grind (arith, nat_tests, h))
walk-through rows (File file) target (m ∷ names) name h = absurd cc
walk-through rows (Directory directory) target (m ∷ names) name h = by (live_target rows directory m) refl h (λ next. walk-through rows next target names name) where
  by : (o : Option Target) → live_target rows directory m ≡ o → option_map_or (λ next. walk rows next (names ++ name ∷ [])) o (Err NoEntry) ≡ Ok target
      → ((next : Target) → walk rows next (names ++ name ∷ []) ≡ Ok target → (last : ℕ) × (walk rows next names ≡ Ok (Directory last)) × (live_target rows last name ≡ Some target))
      → (last : ℕ) × (walk rows (Directory directory) (m ∷ names) ≡ Ok (Directory last)) × (live_target rows last name ≡ Some target)
  by None e h on = absurd cc
  by (Some next) e h on = let (last, leads, stands) = on next h in (last, rw e leads, stands)

-- the place of a file that a path names
pub record HasPlace (rows : List NameRow) (path : List (List ℕ)) (file : ℕ) : Type 0 where
  pub at : ℕ × List ℕ
  pub home : parent_now rows path ≡ Ok at
  pub stands : live_target rows at.0 at.1 ≡ Some (File file)

pub file_place : (rows : List NameRow) (path : List (List ℕ)) (file : ℕ) → file_now rows path ≡ Ok file → HasPlace rows path file
file_place rows [] file named = absurd cc
file_place rows (n ∷ ns) file named =
    let path : List (List ℕ) = n ∷ ns in
    let last = length path - 1 in
    let name = get_or path last n in
    let there : slice_get path last ≡ Some name = slice_get-get_or path last n (omega arith) in
    let whole = split-at path last name (omega arith) there in
    let leads : walk_now rows (take last path ++ name ∷ []) ≡ Ok (File file) = ap (walk_now rows) (sym whole) ∙ file_of (walk_now rows path) file named in
    let (directory, home, stands) = walk-through rows (Directory root) (File file) (take last path) name leads in
    record { at = (directory, name); home = rw (there, home) refl; stands = stands }

-- ---- a new name

-- a path's place stays when a name is added
pub parent-push : (rows : List NameRow) (row : NameRow) (path : List (List ℕ)) (at : ℕ × List ℕ) → parent_now rows path ≡ Ok at → parent_now (rows ++ row ∷ []) path ≡ Ok at
parent-push rows row path at found = grind (arith, nat_tests, found, walk-push rows row)

-- the new name means its target
pub named_stands : (rows : List NameRow) (at : ℕ × List ℕ) (target : Target) (now : ℕ) → is_some (live_target rows at.0 at.1) ≡ false → live_target (rows ++ born_row at.0 at.1 target now ∷ []) at.0 at.1 ≡ Some target
named_stands rows at target now free = grind (arith, nat_tests, free, find-append, false≢true, bytes_eq-Decides)

-- the path leads to the target of its new name
pub named_leads : (rows : List NameRow) (path : List (List ℕ)) (at : ℕ × List ℕ) (target : Target) (now : ℕ) → IsParent rows path at → is_some (live_target rows at.0 at.1) ≡ false → walk_now (rows ++ born_row at.0 at.1 target now ∷ []) path ≡ Ok target
named_leads rows path at target now parent free =
    let row = born_row at.0 at.1 target now in
    ap (walk_now (rows ++ row ∷ [])) parent.whole
    ∙ walk-on (rows ++ row ∷ []) (Directory root) (Directory at.0) parent.front (at.1 ∷ []) (walk-push rows row (Directory root) parent.front (Directory at.0) parent.leads)
    ∙ grind (arith, nat_tests, find-append, false≢true, bytes_eq-Decides)

pub new_leads : (rows : List NameRow) (path : List (List ℕ)) (at : ℕ × List ℕ) (target : Target) (now : ℕ) → parent_now rows path ≡ Ok at → is_some (live_target rows at.0 at.1) ≡ false → walk_now (rows ++ born_row at.0 at.1 target now ∷ []) path ≡ Ok target
new_leads rows path at target now found = named_leads rows path at target now (parent_is rows path at found)
