-- Which versions are found in a renewed world: those that lived at a moment, and the last ones.
use Rattle.ele_lists.proofs.Found.{find-same_all}
use Rattle.ele_lists.specs.Last.{last_passing}
use Rattle.ele_renewal.proofs.Fresh.{file_same, file_there, has_file, version_le, version_lt, version_same, versions_there}
use Rattle.ele_renewal.proofs.Files.{next_renewed}
use Rattle.ele_renewal.proofs.Words.{AllByRecursion, AreVersions, Bool, IsVersion, List, None, Option, Some, VersionRow, World, [], all-both, all-weaker, ap, arith, cond, false, find, find-map, is_before, is_version, list_any, map, nat_lt, nat_tests, new_file, new_version, next_of, option_map, option_or, refl, renewed_file, renewed_version, true, ℕ, ◌-◌, ◌<◌, ◌==◌, ◌∙◌, ◌∷◌, ◌≡◌}
use Rattle.ele_model.specs.Tagged.{had_closed, had_life, held_or_forgotten, last_number, version_living, version_numbered}
use Rattle.ele_renewal.specs.SamePast.{found_as}

-- what is found last passes
last_passes : (p : VersionRow → Bool) (xs : List VersionRow) (x : VersionRow) → last_passing p xs ≡ Some x → p x ≡ true
last_passes p [] x is = absurd cc
last_passes p (y ∷ ys) x is = grind (arith, last_passes p ys x)

module _ (w : World) (old : AreVersions w.files w.now w.versions) where
  -- the version's file is there, the version is held, and its number was given
  abbrev pub IsWhole : VersionRow → Type 0
  IsWhole row = (has_file w.files row.file ≡ true) × (list_any (is_version row.file row.number) w.versions ≡ true) × (row.number < next_of w.files row.file)

  pub versions_whole : AllByRecursion IsWhole w.versions
  versions_whole = all-weaker (λ row. IsVersion w.files w.now row × (list_any (is_version row.file row.number) w.versions ≡ true)) IsWhole w.versions
      (λ row h. (file_there w.files row.file (omega (arith, h.0.numbered)), h.1, h.0.numbered))
      (all-both (IsVersion w.files w.now) (λ row. list_any (is_version row.file row.number) w.versions ≡ true) w.versions old.each (versions_there w.versions))

  -- tests that agree find the same versions
  module _ (p q : VersionRow → Bool) (same : (row : VersionRow) → IsWhole row → p (renewed_version w row) ≡ q row) where
    agree : AllByRecursion (λ row. p (renewed_version w row) ≡ q row) w.versions
    agree = all-weaker IsWhole (λ row. p (renewed_version w row) ≡ q row) w.versions same versions_whole

    pub found_renewed : find p (map (renewed_version w) w.versions) ≡ option_map (renewed_version w) (find q w.versions)
    found_renewed = find-map (renewed_version w) p w.versions ∙ ap (option_map (renewed_version w)) (find-same_all (λ row. p (renewed_version w row)) q w.versions agree)

    last_or : (o : Option VersionRow) (b : Bool) (x : VersionRow) → option_or (option_map (renewed_version w) o) (cond b (Some (renewed_version w x)) None) ≡ option_map (renewed_version w) (option_or o (cond b (Some x) None))
    last_or None true x = refl
    last_or None false x = refl
    last_or (Some y) b x = refl

    last_by : (xs : List VersionRow) → AllByRecursion (λ row. p (renewed_version w row) ≡ q row) xs → last_passing p (map (renewed_version w) xs) ≡ option_map (renewed_version w) (last_passing q xs)
    last_by [] all = refl
    last_by (x ∷ xs) all = rw (last_by xs all.1, all.0) (last_or (last_passing q xs) (q x) x)

    number_of : (file : ℕ) (o : Option VersionRow) → ((row : VersionRow) → o ≡ Some row → row.file ≡ file) → option_map (λ row. row.number) (option_map (renewed_version w) o) ≡ option_map (new_version w.versions file) (option_map (λ row. row.number) o)
    number_of file None own = refl
    number_of file (Some row) own = rw (own row refl) refl

    last_renewed : (file : ℕ) → ((row : VersionRow) → q row ≡ true → row.file ≡ file) → last_number p (map (renewed_version w) w.versions) ≡ option_map (new_version w.versions file) (last_number q w.versions)
    last_renewed file own = rw (last_by w.versions agree) (number_of file (last_passing q w.versions) (λ row is. own row (last_passes q w.versions row is)))

  answered : (file : ℕ) (found : Option VersionRow) (before : Option ℕ) → held_or_forgotten (option_map (renewed_version w) found) (option_map (new_version w.versions file) before) ≡ found_as w file (held_or_forgotten found before)
  answered file None before = refl
  answered file (Some row) before = refl

  module _ (file : ℕ) (there : has_file w.files file ≡ true) where
    -- ---- at a moment

    pub same_life : (moment : ℕ) (row : VersionRow) → IsWhole row → had_life (new_file w.files file) moment (renewed_version w row) ≡ had_life file moment row
    same_life moment row whole = rw (file_same w.files row.file file whole.0 there) refl

    same_closed : (moment : ℕ) (row : VersionRow) → IsWhole row → had_closed (new_file w.files file) moment (renewed_version w row) ≡ had_closed file moment row
    same_closed moment row whole = rw (file_same w.files row.file file whole.0 there) refl

    pub same_living : (moment : ℕ) → version_living (map (renewed_version w) w.versions) (new_file w.files file) moment ≡ found_as w file (version_living w.versions file moment)
    same_living moment = rw (found_renewed (had_life (new_file w.files file) moment) (had_life file moment) (same_life moment), last_renewed (had_closed (new_file w.files file) moment) (had_closed file moment) (same_closed moment) file (λ row is. grind (arith, nat_tests, is)))
        (answered file (find (had_life file moment) w.versions) (last_number (had_closed file moment) w.versions))

    -- ---- the last

    abbrev last : ℕ
    last = next_of w.files file - 1

    last_same : (row : VersionRow) → IsWhole row → row.file ≡ file → ((new_version w.versions row.file row.number == new_version w.versions file last) ≡ (row.number == last)) × (nat_lt (new_version w.versions row.file row.number) (new_version w.versions file last) ≡ nat_lt row.number last)
    last_same row whole own =
        let held : list_any (is_version file row.number) w.versions ≡ true = rw (← own) whole.1 in
        let given : row.number < next_of w.files file = rw (← own) whole.2 in
        let same = version_same w.versions file row.number last held (omega (arith, given)) in
        rw own (same, grind (arith, nat_tests, version_lt w.versions file row.number last held, version_le w.versions file last row.number, given))

    pub same_last : (row : VersionRow) → IsWhole row → is_version (new_file w.files file) (new_version w.versions file last) (renewed_version w row) ≡ is_version file last row
    same_last row whole = elim (row.file == file) as (λ t. (row.file == file) ≡ t → is_version (new_file w.files file) (new_version w.versions file last) (renewed_version w row) ≡ is_version file last row) [
      | true ↦ λ e. rw (file_same w.files row.file file whole.0 there, (last_same row whole (grind (arith, nat_tests, e))).0) refl
      | false ↦ λ e. rw (file_same w.files row.file file whole.0 there, e) refl
    ] refl

    same_before : (row : VersionRow) → IsWhole row → is_before (new_file w.files file) (new_version w.versions file last) (renewed_version w row) ≡ is_before file last row
    same_before row whole = elim (row.file == file) as (λ t. (row.file == file) ≡ t → is_before (new_file w.files file) (new_version w.versions file last) (renewed_version w row) ≡ is_before file last row) [
      | true ↦ λ e. rw (file_same w.files row.file file whole.0 there, (last_same row whole (grind (arith, nat_tests, e))).1) refl
      | false ↦ λ e. rw (file_same w.files row.file file whole.0 there, e) refl
    ] refl

    pub same_current : version_numbered (map (renewed_version w) w.versions) (new_file w.files file) (next_of (map (renewed_file w) w.files) (new_file w.files file) - 1) ≡ found_as w file (version_numbered w.versions file last)
    same_current =
        let number : next_of (map (renewed_file w) w.files) (new_file w.files file) - 1 ≡ new_version w.versions file last = omega (arith, next_renewed w file there) in
        rw (number, found_renewed (is_version (new_file w.files file) (new_version w.versions file last)) (is_version file last) same_last, last_renewed (is_before (new_file w.files file) (new_version w.versions file last)) (is_before file last) same_before file (λ row is. grind (arith, nat_tests, is)))
        (answered file (find (is_version file last) w.versions) (last_number (is_before file last) w.versions))
