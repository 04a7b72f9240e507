-- Directories with fresh numbers.
use Rattle.ele_lists.proofs.Edits.{all-weaker}
use Rattle.ele_renewal.proofs.Fresh.{directories_there, directory_below, directory_lt, directory_root}
use Rattle.ele_renewal.proofs.Ranks.{later-both}
use Rattle.ele_renewal.proofs.Words.{AreDirectories, DirectoryRow, World, all-map, any-map, any-weaker, arith, has_directory, is_directory, later-map, later-weaker, length, length-map, list_any, map, nat_tests, new_directory, refl, renewed_directory, root, true, ℕ, ◌-◌, ◌<◌, ◌≡◌, ◌≤◌}
use Rattle.ele_policy.specs.Policy.{IsPolicy}

module _ (w : World) where
  rooted : list_any (is_directory root) w.directories ≡ true → list_any (is_directory root) (map (renewed_directory w) w.directories) ≡ true
  rooted there = rw (any-map (renewed_directory w) (is_directory root) w.directories) (any-weaker (is_directory root) (λ x. is_directory root (renewed_directory w x)) w.directories by there) where
    by : (x : DirectoryRow) → is_directory root x ≡ true → is_directory root (renewed_directory w x) ≡ true
    by x is = let e : x.id ≡ 0 = grind (arith, nat_tests, is) in rw (e, directory_root w.directories) refl

  -- `made` and `limit` are the old count and its limit
  pub renewed_directories : (made limit : ℕ) → AreDirectories made limit w.directories → AreDirectories (length w.directories - 1) limit (map (renewed_directory w) w.directories)
  renewed_directories made limit old = record {
    rooted = rooted old.rooted;
    policies = all-map (renewed_directory w) (λ row. IsPolicy row.default) w.directories old.policies;
    placed = later-map (renewed_directory w) (λ earlier later. earlier.id < later.id) w.directories
        (later-weaker (λ x y. (has_directory w.directories x.id ≡ true) × (has_directory w.directories y.id ≡ true) × (x.id < y.id)) (λ x y. new_directory w.directories x.id < new_directory w.directories y.id) w.directories
        (λ x y h. directory_lt w.directories x.id y.id h.0 h.2)
        (later-both (λ x. has_directory w.directories x.id ≡ true) (λ x y. x.id < y.id) w.directories (directories_there w.directories) old.placed));
    given = all-map (renewed_directory w) (λ row. row.id ≤ length w.directories - 1) w.directories
        (all-weaker (λ x. has_directory w.directories x.id ≡ true) (λ x. new_directory w.directories x.id ≤ length w.directories - 1) w.directories
        (λ x there. omega (arith, directory_below w.directories x.id there)) (directories_there w.directories));
    counted = rw length-map (omega arith);
    few = omega (arith, old.counted, old.few);
  }
