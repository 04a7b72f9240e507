-- The list of restorable names has each name once, in order. It has a name with a target exactly if the name's newest row is dead, meant
-- that target, and the target may have a name again.
use Rattle.std.specs.Prelude.{◌≡◌, ℕ, ◌==◌, ◌&&◌, Bool, List, map, find}
use Rattle.std.specs.List.Sorted.{IsStrictlySortedBy}
use Rattle.std.specs.Option.{option_map}
use Rattle.std.specs.Str.{bytes_eq}
use Rattle.ele_lists.specs.Last.{passing}
use Rattle.ele_model.specs.declared.rows.DeletedName.{DeletedName}
use Rattle.ele_model.specs.NameRows.{last_dead}
use Rattle.ele_model.specs.Restorable.{name_cmp, may_return, restorable}
use Rattle.ele_model.specs.World.{World}

abbrev pub is_dead_name : ℕ → List ℕ → DeletedName → Bool
is_dead_name directory name dead = (dead.directory == directory) && bytes_eq dead.name name

pub record ListsRestorable (w : World) : Type 0 where
  pub in_order : IsStrictlySortedBy name_cmp (map (λ dead. (dead.directory, dead.name)) (restorable w))
  pub each : (directory : ℕ) (name : List ℕ)
      → option_map (λ dead. dead.target) (find (is_dead_name directory name) (restorable w)) ≡ passing (may_return w) (last_dead w.names directory name)

abbrev pub RestorableLists : Type 0
RestorableLists = (w : World) → ListsRestorable w
