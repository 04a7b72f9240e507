-- What a path leads to, by the place of its last name.
use Rattle.ele_names.proofs.Words.{◌≡◌, ℕ, ◌-◌, List, length, slice_get, take, arith, nat_tests, [], ◌∷◌, Ok, Err, Some, None, ap, ◌∙◌, refl, option_map_or, NoEntry, NameRow, Target, Directory, live_target, parent_now, walk_now, root, parent_is, walk-on, StopsAtPlace}

-- a path leads to what its last name means
pub leads_by_place : (rows : List NameRow) (path : List (List ℕ)) (at : ℕ × List ℕ) → parent_now rows path ≡ Ok at → walk_now rows path ≡ option_map_or (λ target. Ok target) (live_target rows at.0 at.1) (Err NoEntry)
leads_by_place rows path at found =
    let parent = parent_is rows path at found in
    ap (walk_now rows) parent.whole ∙ walk-on rows (Directory root) (Directory at.0) parent.front (at.1 ∷ []) parent.leads

module _ (rows : List NameRow) (path : List (List ℕ)) (directory : ℕ) (name : List ℕ) (found : parent_now rows path ≡ Ok (directory, name)) where
  pub leads_to : (target : Target) → Some target ≡ live_target rows directory name → walk_now rows path ≡ Ok target
  leads_to target is = leads_by_place rows path (directory, name) found ∙ rw (← is) refl

  pub stops_at : None ≡ live_target rows directory name → StopsAtPlace rows path NoEntry
  stops_at is = record {
    directory = directory;
    name = name;
    place = found;
    stops = leads_by_place rows path (directory, name) found ∙ rw (← is) refl;
  }

-- paths whose names before the last are the same have their last names in one directory
pub beside : (rows : List NameRow) (path other : List (List ℕ)) (known : ℕ × List ℕ) (name : List ℕ) → parent_now rows other ≡ Ok known → slice_get path (length path - 1) ≡ Some name
    → take (length path - 1) path ≡ take (length other - 1) other → parent_now rows path ≡ Ok (known.0, name)
beside rows path other known name found last same = grind (arith, nat_tests, found, last, same)
