-- Each directory is exactly one number of live names below the root, so no way down from it leads back to it.
use Rattle.ele_model.proofs.Basics.{nat_tests, arith, ◌≡◌, ℕ, suc, zero, ◌+◌, true, false, List, [], ◌∷◌, Option, option_map_or, Some, None, Ok, Err, refl, ap, find, length, AllByRecursion, AllLater, list_any, all-found, any-found, false≢true, true≢false, found_passes}
use Rattle.ele_model.proofs.Words.{AreOthers, is_live_directory, is_live_name, live_target, root, walk}
use Rattle.ele_world.proofs.Words.{NoEntry, NameRow, Target, File, Directory}
use Rattle.ele_model.specs.OneTree.{Hangs, IsOneTree, hangs_by}
use Rattle.ele_lists.proofs.Cuts.{any-found as first_passing}
use Rattle.ele_world.proofs.OneTree.{is_under, above, below, IsOther}
use Rattle.ele_model.proofs.Walks.{live_row}

-- a directory has its live name in one directory
one_above : (names : List NameRow) (id one other : ℕ) → AllLater AreOthers names → list_any (is_under id one) names ≡ true → list_any (is_under id other) names ≡ true → one ≡ other
one_above [] id one other apart a b = absurd cc
one_above (row ∷ rows) id one other apart a b = grind (arith, nat_tests, apart, false≢true, one_above rows id one other, none_later one, none_later other) where
  none_later : (directory : ℕ) → is_live_directory id row ≡ true → list_any (is_under id directory) rows ≡ true → is_live_directory id row ≡ false
  none_later directory live under =
      let (later, found) = first_passing (is_under id directory) rows under in
      grind (arith, nat_tests, false≢true, found_passes (is_under id directory) rows later found, all-found (is_under id directory) (AreOthers row) rows later found apart.0 id live)

-- the root has no name
none_above : (names : List NameRow) (directory : ℕ) → AllByRecursion (λ row. IsOther row.target) names → list_any (is_under root directory) names ≡ true → true ≡ false
none_above names directory top under =
    let (row, found) = first_passing (is_under root directory) names under in
    grind (arith, nat_tests, found_passes (is_under root directory) names row found, all-found (is_under root directory) (λ row. IsOther row.target) names row found top)

one_depth : (names : List NameRow) (one other id : ℕ) → AllLater AreOthers names → IsOneTree names → hangs_by names one id ≡ true → hangs_by names other id ≡ true → one ≡ other
one_depth names zero zero id apart tree a b = refl
one_depth names zero (suc other) id apart tree a b = let same : id ≡ root = grind (arith, nat_tests, a) in let (directory, under, hung) = above names other root (rw same at b) in absurd (true≢false (none_above names directory tree.top under))
one_depth names (suc one) zero id apart tree a b = let same : id ≡ root = grind (arith, nat_tests, b) in let (directory, under, hung) = above names one root (rw same at a) in absurd (true≢false (none_above names directory tree.top under))
one_depth names (suc one) (suc other) id apart tree a b =
    let (first, under, hung) = above names one id a in
    let (second, below, held) = above names other id b in
    ap suc (one_depth names one other first apart tree hung (rw (one_above names id first second apart under below) held))

-- ---- down from a directory

abbrev HangsBy : List NameRow → ℕ → Target → Type 0
HangsBy names depth (File file) = Unit {0}
HangsBy names depth (Directory id) = hangs_by names depth id ≡ true

named_by : (names : List NameRow) (depth directory : ℕ) (name : List ℕ) (row : NameRow) (target : Target) → hangs_by names depth directory ≡ true → find (is_live_name directory name) names ≡ Some row → row.target ≡ target → HangsBy names (suc depth) target
named_by names depth directory name row (File file) hung found is = tt
named_by names depth directory name row (Directory id) hung found is = below names depth id directory (any-found (is_live_name directory name) (is_under id directory) names row found (grind (arith, nat_tests, found_passes (is_live_name directory name) names row found))) hung

name_by : (names : List NameRow) (depth directory : ℕ) (name : List ℕ) (target : Target) → hangs_by names depth directory ≡ true → live_target names directory name ≡ Some target → HangsBy names (suc depth) target
name_by names depth directory name target hung = live_row (HangsBy names (suc depth)) names directory name target (λ row found. named_by names depth directory name row row.target hung found refl)

walk_by : (names : List NameRow) (depth : ℕ) (at target : Target) (path : List (List ℕ)) → HangsBy names depth at → walk names at path ≡ Ok target → (deeper : ℕ) × (deeper ≡ depth + length path) × HangsBy names deeper target
walk_by names depth at target [] hung h = let same : at ≡ target = cc in (depth, omega arith, rw (← same) hung)
walk_by names depth (File file) target (name ∷ path) hung h = absurd cc
walk_by names depth (Directory directory) target (name ∷ path) hung h = by (live_target names directory name) refl h (λ (next : Target). walk_by names (suc depth) next target path) where
  by : (o : Option Target) → live_target names directory name ≡ o → option_map_or (λ next. walk names next path) o (Err NoEntry) ≡ Ok target
      → ((next : Target) → HangsBy names (suc depth) next → walk names next path ≡ Ok target → (deeper : ℕ) × (deeper ≡ suc depth + length path) × HangsBy names deeper target)
      → (deeper : ℕ) × (deeper ≡ depth + length (name ∷ path)) × HangsBy names deeper target
  by (Some next) leads goes on = let (deeper, is, held) = on next (name_by names depth directory name next hung leads) goes in (deeper, omega arith, held)
  by None leads goes on = absurd cc

-- ---- the law

starts : (names : List NameRow) (directory : ℕ) (name : List ℕ) (path : List (List ℕ)) (target : Target) → IsOneTree names → walk names (Directory directory) (name ∷ path) ≡ Ok target → Hangs names directory
starts names directory name path target tree h = by (find (is_live_name directory name) names) refl where
  by : (o : Option NameRow) → find (is_live_name directory name) names ≡ o → Hangs names directory
  by None none = absurd (grind (arith, nat_tests, none, h))
  by (Some row) found =
      let passes = found_passes (is_live_name directory name) names row found in
      let same : row.directory ≡ directory = grind (arith, nat_tests, passes) in
      rw (← same) (all-found (is_live_name directory name) (λ row. row.death ≡ None → Hangs names row.directory) names row found tree.hang (grind (arith, nat_tests, passes)))

pub none_in_itself : (names : List NameRow) (directory : ℕ) (path : List (List ℕ)) → AllLater AreOthers names → IsOneTree names → walk names (Directory directory) path ≡ Ok (Directory directory) → path ≡ []
none_in_itself names directory [] apart tree back = refl
none_in_itself names directory (name ∷ path) apart tree back =
    let (depth, hung) = starts names directory name path (Directory directory) tree back in
    let (deeper, is, held) = walk_by names depth (Directory directory) (Directory directory) (name ∷ path) hung back in
    let same : depth ≡ deeper = one_depth names depth deeper directory apart tree hung held in
    absurd (grind (arith, nat_tests, is, same))
