-- A path, name by name from the last one up.
use Rattle.ele_name_paths.proofs.Basics.{List, [], append_assoc, append-nil, arith, ap, length, refl, sym, ℕ, ◌++◌, ◌∷◌, ◌≡◌, ◌∙◌, Option, Some, None, Bool, true, false, reverse, reverse-append, suc, zero, nat_tests, option_map, if◌then◌else◌}
use Rattle.ele_name_paths.specs.LivePath.{name_by, path_by, path_within}
use Rattle.ele_name_paths.specs.declared.path.Above.{Above}
use Rattle.ele_model.specs.declared.rows.NameRow.{NameRow}
use Rattle.ele_model.specs.declared.rows.Target.{Target}
use Rattle.ele_model.specs.declared.rows.Target.TheVariants.{Directory}
use Rattle.ele_model.specs.NameRows.{is_target_directory}
use Rattle.ele_model.specs.World.{root}

-- these names, the last one first, lead from the target to where so many more may lead on
abbrev pub Climbs : Above → List NameRow → Target → Target → ℕ → List (List ℕ) → Type 0
Climbs by rows target at most names = path_by by rows target ≡ option_map (λ above. above ++ reverse names) (path_within most by rows at)

map_nil : (path : Option (List (List ℕ))) → path ≡ option_map (λ above. above ++ []) path
map_nil None = refl
map_nil (Some path) = ap Some (sym (append-nil path))

pub climbs_none : (by : Above) (rows : List NameRow) (target : Target) → Climbs by rows target target (length rows) []
climbs_none by rows target = map_nil (path_by by rows target)

map_more : (path : Option (List (List ℕ))) (name : List ℕ) (names : List (List ℕ)) → option_map (λ above. above ++ reverse names) (option_map (λ above. above ++ name ∷ []) path) ≡ option_map (λ above. above ++ reverse (names ++ name ∷ [])) path
map_more None name names = refl
map_more (Some path) name names = ap Some (append_assoc path (name ∷ []) (reverse names) ∙ ap (λ (rest : List (List ℕ)). path ++ rest) (sym (reverse-append names (name ∷ []))))

-- what follows the first name of a target that isn't the root
within_more : (by : Above) (rows : List NameRow) (at : Target) (most : ℕ) (row : NameRow) → (if is_target_directory root at then None else name_by by rows at) ≡ Some row → path_within (suc most) by rows at ≡ option_map (λ above. above ++ row.name ∷ []) (path_within most by rows (Directory row.directory))
within_more by rows at most row first = grind (arith, nat_tests, first)

pub climbs_more : (by : Above) (rows : List NameRow) (target at : Target) (left most : ℕ) (row : NameRow) (names more : List (List ℕ)) → left ≡ suc most → (if is_target_directory root at then None else name_by by rows at) ≡ Some row → more ≡ names ++ row.name ∷ [] → Climbs by rows target at left names → Climbs by rows target (Directory row.directory) most more
climbs_more by rows target at left most row names more is first pushed so =
    rw pushed (so ∙ rw is (ap (option_map (λ above. above ++ reverse names)) (within_more by rows at most row first) ∙ map_more (path_within most by rows (Directory row.directory)) row.name names))

within_none : (by : Above) (rows : List NameRow) (at : Target) (most : ℕ) → (if is_target_directory root at then None else name_by by rows at) ≡ None → path_within most by rows at ≡ (if is_target_directory root at then Some [] else None)
within_none by rows at zero none = refl
within_none by rows at (suc most) none = grind (arith, nat_tests, none)

ended : (whole : Bool) (names : List (List ℕ)) → option_map (λ above. above ++ reverse names) (if whole then Some [] else None) ≡ (if whole then Some (reverse names) else None)
ended true names = refl
ended false names = refl

-- no name leads on
pub climbs_end : (by : Above) (rows : List NameRow) (target at : Target) (most : ℕ) (names : List (List ℕ)) → (if is_target_directory root at then None else name_by by rows at) ≡ None → Climbs by rows target at most names → path_by by rows target ≡ (if is_target_directory root at then Some (reverse names) else None)
climbs_end by rows target at most names none so = so ∙ (ap (option_map (λ above. above ++ reverse names)) (within_none by rows at most none) ∙ ended (is_target_directory root at) names)

-- or there are as many names as rows
pub climbs_full : (by : Above) (rows : List NameRow) (target at : Target) (names : List (List ℕ)) → Climbs by rows target at zero names → path_by by rows target ≡ (if is_target_directory root at then Some (reverse names) else None)
climbs_full by rows target at names so = so ∙ ended (is_target_directory root at) names
