-- Names with fresh numbers: what they mean is there, their directories are reached, and the live ones are one tree.
use Rattle.ele_renewal.proofs.Files.{renewed_there}
use Rattle.ele_renewal.proofs.Fresh.{directory_one, directory_root, directory_same}
use Rattle.ele_renewal.proofs.Ranks.{later-both}
use Rattle.ele_renewal.proofs.Words.{AllByRecursion, AllLater, AreApart, AreHoused, AreNames, AreOthers, Bool, Directory, DirectoryRow, File, Hangs, IsDirectoryThere, IsHoused, IsNameRow, IsOneTree, IsThere, NameRow, None, Target, World, all-both, all-map, all-weaker, any-map, any-weaker, arith, false, hangs_by, has_directory, is_directory, is_live_directory, is_name_of_directory, is_none, is_reached, is_target_directory, later-map, later-weaker, list_any, map, nat_tests, new_directory, refl, renewed_directory, renewed_file, renewed_name, renewed_target, root, suc, true, zero, ℕ, ◌&&◌, ◌==◌, ◌||◌, ◌≡◌}

module _ (w : World) where
  -- ---- the rows by themselves

  target_there : (target : Target) → IsThere w.files target → IsThere (map (renewed_file w) w.files) (renewed_target w target)
  target_there (File file) there = renewed_there w file there
  target_there (Directory directory) there = tt

  name_row : (row : NameRow) → IsNameRow w.files w.now row → IsNameRow (map (renewed_file w) w.files) w.now (renewed_name w row)
  name_row row is = record { there = target_there row.target is.there; born = is.born; dead = is.dead }

  homes_there : AreHoused w.directories w.names → AllByRecursion (λ row. has_directory w.directories row.directory ≡ true) w.names
  homes_there homes = all-weaker (IsHoused w.directories w.names) (λ row. has_directory w.directories row.directory ≡ true) w.names (λ row is. is.home) homes.each

  pub renewed_names : AreNames w.files w.now w.names → AreHoused w.directories w.names → AreNames (map (renewed_file w) w.files) w.now (map (renewed_name w) w.names)
  renewed_names old homes = record {
    each = all-map (renewed_name w) (IsNameRow (map (renewed_file w) w.files) w.now) w.names
        (all-weaker (IsNameRow w.files w.now) (λ row. IsNameRow (map (renewed_file w) w.files) w.now (renewed_name w row)) w.names name_row old.each);
    lives = later-map (renewed_name w) AreApart w.names
        (later-weaker (λ x y. (has_directory w.directories x.directory ≡ true) × (has_directory w.directories y.directory ≡ true) × AreApart x y) (λ x y. AreApart (renewed_name w x) (renewed_name w y)) w.names
        (λ x y h one name. h.2 (directory_one w.directories x.directory y.directory h.0 h.1 one) name)
        (later-both (λ x. has_directory w.directories x.directory ≡ true) AreApart w.names (homes_there homes) old.lives));
  }

  -- ---- their directories

  has_renewed : (id : ℕ) → has_directory w.directories id ≡ true → has_directory (map (renewed_directory w) w.directories) (new_directory w.directories id) ≡ true
  has_renewed id there = rw (any-map (renewed_directory w) (is_directory (new_directory w.directories id)) w.directories) (any-weaker (is_directory id) (λ x. is_directory (new_directory w.directories id) (renewed_directory w x)) w.directories by there) where
    by : (x : DirectoryRow) → is_directory id x ≡ true → is_directory (new_directory w.directories id) (renewed_directory w x) ≡ true
    by x is = let e : x.id ≡ id = grind (arith, nat_tests, is) in rw e (grind (arith, nat_tests))

  means : (id : ℕ) (target : Target) → is_target_directory id target ≡ true → is_target_directory (new_directory w.directories id) (renewed_target w target) ≡ true
  means id (File file) is = absurd cc
  means id (Directory directory) is = let e : directory ≡ id = grind (arith, nat_tests, is) in rw e (grind (arith, nat_tests))

  live_means : (id : ℕ) (row : NameRow) → is_live_directory id row ≡ true → is_live_directory (new_directory w.directories id) (renewed_name w row) ≡ true
  live_means id row is = grind (arith, means id row.target)

  live_renewed : (id : ℕ) → list_any (is_live_directory id) w.names ≡ true → list_any (is_live_directory (new_directory w.directories id)) (map (renewed_name w) w.names) ≡ true
  live_renewed id any = rw (any-map (renewed_name w) (is_live_directory (new_directory w.directories id)) w.names) (any-weaker (is_live_directory id) (λ x. is_live_directory (new_directory w.directories id) (renewed_name w x)) w.names (live_means id) any)

  named_renewed : (id : ℕ) → list_any (is_name_of_directory id) w.names ≡ true → list_any (is_name_of_directory (new_directory w.directories id)) (map (renewed_name w) w.names) ≡ true
  named_renewed id any = rw (any-map (renewed_name w) (is_name_of_directory (new_directory w.directories id)) w.names) (any-weaker (is_name_of_directory id) (λ x. is_name_of_directory (new_directory w.directories id) (renewed_name w x)) w.names (λ x. means id x.target) any)

  root_stays : (id : ℕ) → (id == root) ≡ true → (new_directory w.directories id == root) ≡ true
  root_stays id is = let e : id ≡ 0 = grind (arith, nat_tests, is) in rw (e, directory_root w.directories) refl

  reached : (id : ℕ) → is_reached w.names id ≡ true → is_reached (map (renewed_name w) w.names) (new_directory w.directories id) ≡ true
  reached id is = grind (arith, root_stays id, live_renewed id)

  directory_there : (target : Target) → IsDirectoryThere w.directories target → IsDirectoryThere (map (renewed_directory w) w.directories) (renewed_target w target)
  directory_there (File file) there = tt
  directory_there (Directory directory) there = has_renewed directory there

  housed : (row : NameRow) → IsHoused w.directories w.names row → IsHoused (map (renewed_directory w) w.directories) (map (renewed_name w) w.names) (renewed_name w row)
  housed row is = record {
    home = has_renewed row.directory is.home;
    there = directory_there row.target is.there;
    reached = λ live. reached row.directory (is.reached live);
  }

  pub renewed_homes : AreHoused w.directories w.names → AreHoused (map (renewed_directory w) w.directories) (map (renewed_name w) w.names)
  renewed_homes old = record {
    each = all-map (renewed_name w) (IsHoused (map (renewed_directory w) w.directories) (map (renewed_name w) w.names)) w.names
        (all-weaker (IsHoused w.directories w.names) (λ row. IsHoused (map (renewed_directory w) w.directories) (map (renewed_name w) w.names) (renewed_name w row)) w.names housed old.each);
    named = all-map (renewed_directory w) (λ row. ((row.id == root) || list_any (is_name_of_directory row.id) (map (renewed_name w) w.names)) ≡ true) w.directories
        (all-weaker (λ row. ((row.id == root) || list_any (is_name_of_directory row.id) w.names) ≡ true) (λ row. ((new_directory w.directories row.id == root) || list_any (is_name_of_directory (new_directory w.directories row.id)) (map (renewed_name w) w.names)) ≡ true) w.directories
        (λ row is. grind (arith, root_stays row.id, named_renewed row.id)) old.named);
  }

  -- ---- one tree

  apart : (target other : Target) → IsDirectoryThere w.directories target → IsDirectoryThere w.directories other → (first second : Bool)
      → ((id : ℕ) → (is_target_directory id target && first) ≡ true → (is_target_directory id other && second) ≡ false)
      → (id : ℕ) → (is_target_directory id (renewed_target w target) && first) ≡ true → (is_target_directory id (renewed_target w other) && second) ≡ false
  apart (File file) other here there first second others id is = absurd cc
  apart (Directory directory) (File file) here there first second others id is = refl
  apart (Directory directory) (Directory below) here there first second others id is = grind (arith, nat_tests, directory_same w.directories directory below here there, others directory)

  targets_there : AreHoused w.directories w.names → AllByRecursion (λ row. IsDirectoryThere w.directories row.target) w.names
  targets_there homes = all-weaker (IsHoused w.directories w.names) (λ row. IsDirectoryThere w.directories row.target) w.names (λ row is. is.there) homes.each

  pub renewed_tree : AreHoused w.directories w.names → AllLater AreOthers w.names → AllLater AreOthers (map (renewed_name w) w.names)
  renewed_tree homes old = later-map (renewed_name w) AreOthers w.names
      (later-weaker (λ x y. IsDirectoryThere w.directories x.target × IsDirectoryThere w.directories y.target × AreOthers x y) (λ x y. AreOthers (renewed_name w x) (renewed_name w y)) w.names
      (λ x y h. apart x.target y.target h.0 h.1 (is_none x.death) (is_none y.death) h.2)
      (later-both (λ row. IsDirectoryThere w.directories row.target) AreOthers w.names (targets_there homes) old))

  hangs_renewed : (depth id : ℕ) → hangs_by w.names depth id ≡ true → hangs_by (map (renewed_name w) w.names) depth (new_directory w.directories id) ≡ true
  hangs_renewed zero id is = root_stays id is
  hangs_renewed (suc depth) id is = rw (any-map (renewed_name w) (λ row. is_live_directory (new_directory w.directories id) row && hangs_by (map (renewed_name w) w.names) depth row.directory) w.names)
      (any-weaker (λ row. is_live_directory id row && hangs_by w.names depth row.directory) (λ row. is_live_directory (new_directory w.directories id) (renewed_name w row) && hangs_by (map (renewed_name w) w.names) depth (new_directory w.directories row.directory)) w.names
      (λ row h. grind (arith, live_means id row, hangs_renewed depth row.directory)) is)

  not_root : has_directory w.directories root ≡ true → (target : Target) → IsDirectoryThere w.directories target → is_target_directory root target ≡ false → is_target_directory root (renewed_target w target) ≡ false
  not_root rooted (File file) there is = refl
  not_root rooted (Directory directory) there is = let same = directory_same w.directories directory 0 there rooted in grind (arith, nat_tests, same, directory_root w.directories)

  pub renewed_one_tree : has_directory w.directories root ≡ true → AreHoused w.directories w.names → IsOneTree w.names → IsOneTree (map (renewed_name w) w.names)
  renewed_one_tree rooted homes old = record {
    top = all-map (renewed_name w) (λ row. is_name_of_directory root row ≡ false) w.names
        (all-weaker (λ row. IsDirectoryThere w.directories row.target × (is_name_of_directory root row ≡ false)) (λ row. is_name_of_directory root (renewed_name w row) ≡ false) w.names
        (λ row h. not_root rooted row.target h.0 h.1)
        (all-both (λ row. IsDirectoryThere w.directories row.target) (λ row. is_name_of_directory root row ≡ false) w.names (targets_there homes) old.top));
    hang = all-map (renewed_name w) (λ row. row.death ≡ None → Hangs (map (renewed_name w) w.names) row.directory) w.names
        (all-weaker (λ row. row.death ≡ None → Hangs w.names row.directory) (λ row. row.death ≡ None → Hangs (map (renewed_name w) w.names) (new_directory w.directories row.directory)) w.names
        (λ row h live. let hangs = h live in (hangs.0, hangs_renewed hangs.0 row.directory hangs.1)) old.hang);
  }
