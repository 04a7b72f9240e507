-- If all live names stay, a path leads where it led.
use Rattle.ele_model.proofs.Basics.{◌≡◌, ◌-◌, ℕ, Bool, true, List, [], ◌∷◌, refl, ap, arith, nat_tests, filter, is_none, list_any, length, take, AllByRecursion, all-weaker, option_map}
use Rattle.ele_model.proofs.Words.{is_live_name, is_live_in, live_target, walk, comes_through, stands_in, root}
use Rattle.ele_world.proofs.Words.{NameRow, Target, File, Directory}
use Rattle.ele_world.proofs.Filters.{find-stay, list_any-stay}

-- a live name stays
abbrev pub StaysLive : (NameRow → Bool) → NameRow → Type 0
StaysLive q row = is_none row.death ≡ true → q row ≡ true

module _ (q : NameRow → Bool) (names : List NameRow) (live : AllByRecursion (StaysLive q) names) where
  abbrev left : List NameRow
  left = filter q names

  pub target_stays : (directory : ℕ) (name : List ℕ) → live_target left directory name ≡ live_target names directory name
  target_stays directory name = ap (option_map (λ (row : NameRow). row.target)) (find-stay q (is_live_name directory name) names (all-weaker (StaysLive q) (λ row. is_live_name directory name row ≡ true → q row ≡ true) names (λ row stays is. stays (grind (arith, nat_tests, is))) live))

  pub names_in_stay : (directory : ℕ) → list_any (is_live_in directory) left ≡ list_any (is_live_in directory) names
  names_in_stay directory = list_any-stay q (is_live_in directory) names (all-weaker (StaysLive q) (λ row. is_live_in directory row ≡ true → q row ≡ true) names (λ row stays is. stays (grind (arith, nat_tests, is))) live)

  pub walk_stays : (at : Target) (path : List (List ℕ)) → walk left at path ≡ walk names at path
  walk_stays at [] = refl
  walk_stays (File file) (name ∷ path) = refl
  walk_stays (Directory directory) (name ∷ path) = grind (arith, target_stays directory name, (λ (next : Target). walk_stays next path))

  pub comes_stays : (id : ℕ) (at : Target) (path : List (List ℕ)) → comes_through left id at path ≡ comes_through names id at path
  comes_stays id at [] = refl
  comes_stays id (File file) (name ∷ path) = refl
  comes_stays id (Directory directory) (name ∷ path) = grind (arith, target_stays directory name, (λ (next : Target). comes_stays id next path))

  pub stands_stays : (moved : Target) (path : List (List ℕ)) → stands_in left moved path ≡ stands_in names moved path
  stands_stays (File file) path = refl
  stands_stays (Directory id) path = comes_stays id (Directory root) (take (length path - 1) path)
