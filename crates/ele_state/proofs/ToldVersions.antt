-- What a path leads to by the names of any moment, and the info of the version that its tag means.
use Rattle.ele_state.proofs.Words.{Names, HasParts, is_held, meant_held, true, arith, nat_tests, ◌≡◌, ℕ, List, ◌∷◌, Option, Result, Ok, Err, refl, ap, subst, AllByRecursion, option_map_or, result_map_both, all-found, target_at, version_at, version_found, version_meant, walk_meant, info_of, file_at, walk_now, IsNameRow, IsThere, World, Refusal, VersionInfo, Target, File, Directory, VersionRow, is_at, is_meant, file_there, [], AllLater, ArePlaced, IfOk, Some, option_map, all_found, find, is_version, version_cells, sym, ◌∙◌}
use Rattle.ele_state.specs.Told.{found_of}
use Rattle.ele_path.specs.declared.tagged.Tag.{Tag}
use Rattle.ele_path.specs.declared.tagged.TaggedPath.{TaggedPath}
use Rattle.ele_model.proofs.Versions.{IsFound}
use Rattle.ele_model.specs.WalkAt.{walk_covering}
use Rattle.ele_model.specs.Fate.{HasFate}
use Rattle.ele_model.specs.Why.{MeansFate}
use Rattle.ele_model.specs.declared.fate.Fate.{Fate}
use Rattle.ele_model.specs.declared.refusal.Refusal.TheVariants.{NoEntry}

-- ---- what a path leads to is there

module _ (w : World) (formed : HasParts w) where
  each : AllByRecursion (IsNameRow w.files w.now) w.names
  each = (formed.holds Names).each

  walked_there : (moment : ℕ) (at target : Target) (names : List (List ℕ)) → IsThere w.files at → walk_covering w.names moment at names ≡ Ok target → IsThere w.files target
  walked_there moment at target [] so h = let same : at ≡ target = cc in subst (IsThere w.files) same so
  walked_there moment (File file) target (name ∷ names) so h = absurd cc
  walked_there moment (Directory directory) target (name ∷ names) so h =
      go (λ next so. walked_there moment next target names so) (target_at w.names moment directory name) refl h where
        go : ((next : Target) → IsThere w.files next → walk_covering w.names moment next names ≡ Ok target → IsThere w.files target) → (o : Option Target) → target_at w.names moment directory name ≡ o → option_map_or (λ target. walk_covering w.names moment target names) o (Err NoEntry) ≡ Ok target → IsThere w.files target
        go onward x1 e h = grind (arith, nat_tests, all-found, each)

  now_there : (path : List (List ℕ)) (target : Target) → walk_now w.names path ≡ Ok target → IsThere w.files target
  now_there path (File file) h = file_there w.files w.now w.names path file each (ap file_at h)
  now_there path (Directory directory) h = tt

  pub meant_there : (path : List (List ℕ)) (t : Tag) (target : Target) → walk_meant w path t ≡ Ok target → IsThere w.files target
  meant_there path x1 target h = grind (arith, nat_tests, now_there, walked_there)

-- ---- the version that is meant, by its info

pub told_found : (w : World) (found : Result ℕ Refusal) (t : Tag) (file : ℕ) (info : VersionInfo) → found ≡ Ok file → Ok info ≡ result_map_both info_of (λ refusal. refusal) (version_meant w.files w.versions file t) → Ok (file, info) ≡ found_of (version_found w found t)
told_found w found t file info leads is = rw leads (by (version_meant w.files w.versions file t) refl is) where
  by : (r : Result VersionRow Refusal) → version_meant w.files w.versions file t ≡ r → Ok info ≡ result_map_both info_of (λ (refusal : Refusal). refusal) r → Ok (file, info) ≡ found_of r
  by (Ok row) meant told = let own = (is_meant w.files w.versions file t row meant).own in cc
  by (Err refusal) meant told = absurd cc

record IsTold (w : World) (tagged : TaggedPath) (found : ℕ × VersionInfo) : Type 0 where
  row : VersionRow
  meant : version_at w tagged ≡ Ok row
  is : found ≡ (row.file, info_of row)

told_row : (w : World) (tagged : TaggedPath) (found : ℕ × VersionInfo) → Ok found ≡ found_of (version_at w tagged) → IsTold w tagged found
told_row w tagged found h = grind (arith, nat_tests)

-- so it is held
pub found_held : (w : World) (tagged : TaggedPath) (found : ℕ × VersionInfo) → Ok found ≡ found_of (version_at w tagged) → is_held w found.0 found.1.number ≡ true
found_held w tagged found h = let told = told_row w tagged found h in rw told.is (meant_held w told.row.file told.row (is_at w tagged told.row told.meant))

-- it is the one that is found by its file and number, so a read returns its cells
pub found_cells : (w : World) (tagged : TaggedPath) (found : ℕ × VersionInfo) → AllLater ArePlaced w.versions → Ok found ≡ found_of (version_at w tagged) → IfOk (version_at w tagged) (λ row. version_cells w found.0 found.1.number ≡ row.cells)
found_cells w tagged found placed h =
    let told = told_row w tagged found h in
    let meant = is_at w tagged told.row told.meant in
    let itself : find (is_version told.row.file told.row.number) w.versions ≡ Some told.row = all-found meant.passes (IsFound w.versions) w.versions told.row meant.found (all_found w.versions placed) in
    let cells : version_cells w found.0 found.1.number ≡ told.row.cells = ap (λ (f : ℕ × VersionInfo). version_cells w f.0 f.1.number) told.is ∙ ap (λ o. option_map_or (λ (row : VersionRow). row.cells) o []) itself in
    subst (λ (r : Result VersionRow Refusal). IfOk r (λ row. version_cells w found.0 found.1.number ≡ row.cells)) (sym told.meant) cells

-- so it is the info of the held version of its number
pub found_info : (w : World) (tagged : TaggedPath) (found : ℕ × VersionInfo) → AllLater ArePlaced w.versions → Ok found ≡ found_of (version_at w tagged) → option_map info_of (find (is_version found.0 found.1.number) w.versions) ≡ Some found.1
found_info w tagged found placed h =
    let told = told_row w tagged found h in
    let meant = is_at w tagged told.row told.meant in
    let itself : find (is_version told.row.file told.row.number) w.versions ≡ Some told.row = all-found meant.passes (IsFound w.versions) w.versions told.row meant.found (all_found w.versions placed) in
    subst (λ (f : ℕ × VersionInfo). option_map info_of (find (is_version f.0 f.1.number) w.versions) ≡ Some f.1) (sym told.is) (ap (option_map info_of) itself)

-- and what becomes of it is why the path's version is held or may go
pub found_fate : (w : World) (tagged : TaggedPath) (found : ℕ × VersionInfo) (fate : Fate) → Ok found ≡ found_of (version_at w tagged) → HasFate w found.0 found.1.number fate → MeansFate w tagged fate
found_fate w tagged found fate h has =
    let told = told_row w tagged found h in
    record { row = told.row; means = told.meant; has = subst (λ (f : ℕ × VersionInfo). HasFate w f.0 f.1.number fate) told.is has }

-- if none is found, the refusal is the path's
pub none_found : (w : World) (tagged : TaggedPath) (refusal : Refusal) → Err refusal ≡ found_of (version_at w tagged) → version_at w tagged ≡ Err refusal
none_found w tagged refusal h = by (version_at w tagged) refl h where
  by : (r : Result VersionRow Refusal) → version_at w tagged ≡ r → Err refusal ≡ found_of r → version_at w tagged ≡ Err refusal
  by (Ok row) is h = absurd cc
  by (Err other) is h = let same : refusal ≡ other = cc in is ∙ ap (λ (e : Refusal). Err e) (sym same)
