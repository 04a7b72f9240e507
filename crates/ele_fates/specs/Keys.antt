-- Keys of a queue that are added and removed.
use Rattle.std.specs.Prelude.{◌≡◌, ℕ, ◌==◌, Bool, not, ◌&&◌, ◌||◌, List, [], ◌∷◌, Option, Some, None, if◌then◌else◌}
use Rattle.std.specs.List.{list_any}
use Rattle.std.specs.Option.{option_eq}
use Rattle.ele_due.specs.declared.key.Key.{Key}
use Rattle.ele_due.specs.HasKey.{has_key}
use Rattle.ele_fates.specs.declared.keys.KeyChange.{KeyChange}
use Rattle.ele_model.specs.Neighbours.{is_moment}

-- the key is that of the version with that moment, if there is one
abbrev pub is_entry : ℕ → ℕ → Option ℕ → Key → Bool
is_entry file number moment k = ((k.file == file) && (k.number == number)) && is_moment k.ripe moment

-- one version's key was removed, another was added, and all others stayed
abbrev pub IsRekeyed : ℕ → ℕ → Option ℕ → Option ℕ → List Key → List Key → Type 0
IsRekeyed file number was is queue after =
    (k : Key) → has_key k after ≡ (is_entry file number is k || (not (is_entry file number was k) && has_key k queue))

-- the list of the change, if there is one
abbrev pub if_changed : Option KeyChange → List KeyChange
if_changed None = []
if_changed (Some change) = if option_eq (λ a b. a == b) change.was change.is then [] else (change ∷ [])

-- the changes add the key
abbrev pub comes : List KeyChange → Key → Bool
comes changes k = list_any (λ change. is_entry change.file change.number change.is k) changes

abbrev pub goes : List KeyChange → Key → Bool
goes changes k = list_any (λ change. is_entry change.file change.number change.was k) changes
