-- Current versions, and the files of live names.
use Rattle.std.specs.Prelude.{IfNone}
use Rattle.ele_well_formed.proofs.Words.{AllByRecursion, AreNames, FileRow, HasCurrent, HaveCurrent, IsNameRow, IsVersion, List, NameRow, None, Option, Some, VersionRow, World, [], all-found, arith, find, found_passes, is_current, is_endless, is_file, is_live_name_of, list_any, nat_tests, next_of, refl, true, ℕ, ◌<◌, ◌∷◌, ◌≡◌}

-- only a file's last version has no end
pub endless_is_current : (files : List FileRow) (now file : ℕ) (versions : List VersionRow) → AllByRecursion (IsVersion files now) versions → list_any (is_current file (next_of files file)) versions ≡ list_any (is_endless file) versions
endless_is_current files now file [] all = refl
endless_is_current files now file (row ∷ rows) all = let last = all.0.open_end in grind (arith, nat_tests, last, endless_is_current files now file rows all.1)

-- the file of a live name is there
live_there : (files : List FileRow) (now file : ℕ) (names : List NameRow) → AllByRecursion (IsNameRow files now) names → list_any (is_live_name_of file) names ≡ true → 0 < next_of files file
live_there files now file [] all live = absurd cc
live_there files now file (row ∷ rows) all live = let there = all.0.there in grind (arith, nat_tests, there, live_there files now file rows all.1)

-- so each live file has a row
pub have_current : (w : World) → AreNames w.files w.now w.names → AllByRecursion (HasCurrent w) w.files → HaveCurrent w
have_current w names all file live =
    let there : 0 < next_of w.files file = live_there w.files w.now file w.names names.each live in
    elim (find (is_file file) w.files) as (λ o. find (is_file file) w.files ≡ o → list_any (is_current file (next_of w.files file)) w.versions ≡ true) [
      | None ↦ λ e. absurd (grind (arith, nat_tests, there))
      | Some row ↦ λ e. let here = all-found (is_file file) (HasCurrent w) w.files row e all in let own : row.id ≡ file = grind (arith, nat_tests, found_passes (is_file file) w.files row e) in rw own at here live
    ] refl

pub if_none : {X : Type 0} {P Q : Type 0} (o : Option X) → (P → Q) → IfNone o P → IfNone o Q
if_none None on p = on p
if_none (Some x) on p = p
