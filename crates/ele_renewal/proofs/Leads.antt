-- Where paths lead in a renewed world, now and at each moment.
use Rattle.ele_lists.proofs.Found.{find-same_all}
use Rattle.ele_renewal.proofs.Fresh.{directory_same, directory_root}
use Rattle.ele_renewal.proofs.Words.{AllByRecursion, Bool, Directory, File, IsDirectoryThere, IsHoused, IsNameRow, IsStart, IsThere, List, NameRow, None, Option, Some, Target, World, [], all-both, all-found, all-weaker, arith, false, find, find-map, has_directory, map, nat_lt, nat_tests, new_directory, option_map, option_map_or, refl, renewed_name, renewed_target, root, true, ℕ, ◌&&◌, ◌∷◌, ◌≡◌}
use Rattle.ele_model.specs.declared.refusal.Refusal.TheVariants.{NoEntry}
use Rattle.ele_model.specs.NameRows.{covers, is_named, target_at}
use Rattle.ele_model.specs.Walk.{is_live_name, live_target, walk_by, walk_now}
use Rattle.ele_model.specs.WalkAt.{walk_at}
use Rattle.ele_renewal.specs.SamePast.{led_to}
use Rattle.std.specs.Prelude.{Ok, Err}

-- ---- where paths lead

module _ (w : World) (old : IsStart w) where
  -- the target's directory or file is there
  abbrev pub IsTargetThere : Target → Type 0
  IsTargetThere target = IsDirectoryThere w.directories target × IsThere w.files target

  -- the name's directory is there, and so is what it means
  abbrev pub IsWhole : NameRow → Type 0
  IsWhole row = (has_directory w.directories row.directory ≡ true) × IsTargetThere row.target

  pub names_whole : AllByRecursion IsWhole w.names
  names_whole = all-weaker (λ row. IsHoused w.directories w.names row × IsNameRow w.files w.now row) IsWhole w.names (λ row h. (h.0.home, (h.0.there, h.1.there)))
      (all-both (IsHoused w.directories w.names) (IsNameRow w.files w.now) w.names old.formed.homes.each old.formed.names.each)

  -- a row with that target is whole, so the target is there
  target_there : (p : NameRow → Bool) (target : Target) → option_map (λ row. row.target) (find p w.names) ≡ Some target → IsTargetThere target
  target_there p target is = by (find p w.names) refl is where
    by : (o : Option NameRow) → find p w.names ≡ o → option_map (λ row. row.target) o ≡ Some target → IsTargetThere target
    by None found is = absurd cc
    by (Some row) found is =
        let same : row.target ≡ target = cc in
        let whole : IsWhole row = all-found p IsWhole w.names row found names_whole in
        rw (← same) whole.1

  -- names by a test that doesn't see fresh numbers
  module _ (t : ℕ → NameRow → Bool) (same : (directory : ℕ) → has_directory w.directories directory ≡ true → (row : NameRow) → IsWhole row → t (new_directory w.directories directory) (renewed_name w row) ≡ t directory row) where
    meant : (o : Option NameRow) → option_map (λ row. row.target) (option_map (renewed_name w) o) ≡ option_map (renewed_target w) (option_map (λ row. row.target) o)
    meant None = refl
    meant (Some row) = refl

    same_target : (directory : ℕ) → has_directory w.directories directory ≡ true
        → option_map (λ row. row.target) (find (t (new_directory w.directories directory)) (map (renewed_name w) w.names)) ≡ option_map (renewed_target w) (option_map (λ row. row.target) (find (t directory) w.names))
    same_target directory there =
        rw (
          find-map (renewed_name w) (t (new_directory w.directories directory)) w.names,
          find-same_all (λ row. t (new_directory w.directories directory) (renewed_name w row)) (t directory) w.names (all-weaker IsWhole (λ row. t (new_directory w.directories directory) (renewed_name w row) ≡ t directory row) w.names (same directory there) names_whole),
        )
        (meant (find (t directory) w.names))

  same_live : (name : List ℕ) (directory : ℕ) → has_directory w.directories directory ≡ true → (row : NameRow) → IsWhole row → is_live_name (new_directory w.directories directory) name (renewed_name w row) ≡ is_live_name directory name row
  same_live name directory there row whole = rw (directory_same w.directories row.directory directory whole.0 there) refl

  same_covering : (moment : ℕ) (name : List ℕ) (directory : ℕ) → has_directory w.directories directory ≡ true → (row : NameRow) → IsWhole row → (is_named (new_directory w.directories directory) name (renewed_name w row) && covers moment (renewed_name w row)) ≡ (is_named directory name row && covers moment row)
  same_covering moment name directory there row whole = rw (directory_same w.directories row.directory directory whole.0 there) refl

  -- a walk by names that mean the same
  module _ (leads fresh : ℕ → List ℕ → Option Target)
      (same : (name : List ℕ) (directory : ℕ) → has_directory w.directories directory ≡ true → fresh (new_directory w.directories directory) name ≡ option_map (renewed_target w) (leads directory name))
      (whole : (name : List ℕ) (directory : ℕ) (target : Target) → leads directory name ≡ Some target → IsTargetThere target) where
    next_same : (o : Option Target) (path : List (List ℕ)) → ((target : Target) → o ≡ Some target → IsTargetThere target)
        → ((target : Target) → IsTargetThere target → walk_by fresh (renewed_target w target) path ≡ led_to w (walk_by leads target path))
        → option_map_or (λ target. walk_by fresh target path) (option_map (renewed_target w) o) (Err NoEntry) ≡ led_to w (option_map_or (λ target. walk_by leads target path) o (Err NoEntry))
    next_same None path there on = refl
    next_same (Some target) path there on = on target (there target refl)

    same_walk : (at : Target) (path : List (List ℕ)) → IsTargetThere at → walk_by fresh (renewed_target w at) path ≡ led_to w (walk_by leads at path)
    same_walk at [] there = refl
    same_walk (File file) (name ∷ path) there = refl
    same_walk (Directory directory) (name ∷ path) there = rw (same name directory there.0) (next_same (leads directory name) path (whole name directory) (λ target is. same_walk target path is))

    pub walk_from_root : (path : List (List ℕ)) → walk_by fresh (Directory root) path ≡ led_to w (walk_by leads (Directory root) path)
    walk_from_root path = rw directory_root at (same_walk (Directory root) path (old.formed.directories.rooted, tt))

    next_there : (o : Option Target) (path : List (List ℕ)) (end : Target) → ((target : Target) → o ≡ Some target → IsTargetThere target)
        → ((target : Target) → IsTargetThere target → walk_by leads target path ≡ Ok end → IsTargetThere end)
        → option_map_or (λ target. walk_by leads target path) o (Err NoEntry) ≡ Ok end → IsTargetThere end
    next_there None path end there on is = absurd cc
    next_there (Some target) path end there on is = on target (there target refl) is

    walk_there : (at : Target) (path : List (List ℕ)) (end : Target) → IsTargetThere at → walk_by leads at path ≡ Ok end → IsTargetThere end
    walk_there at [] end there is = let same : at ≡ end = cc in rw (← same) there
    walk_there (File file) (name ∷ path) end there is = absurd cc
    walk_there (Directory directory) (name ∷ path) end there is = next_there (leads directory name) path end (whole name directory) (λ target so. walk_there target path end so) is

    pub root_there : (path : List (List ℕ)) (end : Target) → walk_by leads (Directory root) path ≡ Ok end → IsTargetThere end
    root_there path end is = walk_there (Directory root) path end (old.formed.directories.rooted, tt) is

  pub same_walk_now : (path : List (List ℕ)) → walk_now (map (renewed_name w) w.names) path ≡ led_to w (walk_now w.names path)
  same_walk_now path = walk_from_root (live_target w.names) (live_target (map (renewed_name w) w.names)) (λ name. same_target (λ directory. is_live_name directory name) (same_live name)) (λ name directory target. target_there (is_live_name directory name) target) path

  pub now_there : (path : List (List ℕ)) (end : Target) → walk_now w.names path ≡ Ok end → IsTargetThere end
  now_there path end is = root_there (live_target w.names) (live_target (map (renewed_name w) w.names)) (λ name. same_target (λ directory. is_live_name directory name) (same_live name)) (λ name directory target. target_there (is_live_name directory name) target) path end is

  pub same_walk_at : (moment : ℕ) (path : List (List ℕ)) → walk_at (map (renewed_name w) w.names) moment w.now path ≡ led_to w (walk_at w.names moment w.now path)
  same_walk_at moment path = elim (nat_lt w.now moment) as (λ t. nat_lt w.now moment ≡ t → walk_at (map (renewed_name w) w.names) moment w.now path ≡ led_to w (walk_at w.names moment w.now path)) [
    | true ↦ λ e. rw e refl
    | false ↦ λ e. rw e (walk_from_root (target_at w.names moment) (target_at (map (renewed_name w) w.names) moment) (λ name. same_target (λ directory row. is_named directory name row && covers moment row) (same_covering moment name)) (λ name directory target. target_there (λ row. is_named directory name row && covers moment row) target) path)
  ] refl

  pub at_there : (moment : ℕ) (path : List (List ℕ)) (end : Target) → walk_at w.names moment w.now path ≡ Ok end → IsTargetThere end
  at_there moment path end is = elim (nat_lt w.now moment) as (λ t. nat_lt w.now moment ≡ t → IsTargetThere end) [
    | true ↦ λ e. absurd (grind (arith, nat_tests, e, is))
    | false ↦ λ e. root_there (target_at w.names moment) (target_at (map (renewed_name w) w.names) moment) (λ name. same_target (λ directory row. is_named directory name row && covers moment row) (same_covering moment name)) (λ name directory target. target_there (λ row. is_named directory name row && covers moment row) target) path end (rw e at is)
  ] refl
