-- Words about a queue of keys. A reader of the core doesn't need them.
use Rattle.std.specs.Prelude.{ℕ, Bool, nat_le, Option, Some, None, option_and_then, if◌then◌else◌, List}
use Rattle.ele_due.specs.declared.key.Key.{Key}
use Rattle.std.specs.List.Sorted.{IsStrictlySortedBy}
use Rattle.ele_due.specs.Key.{key_cmp}

-- whether the key's version is due at the moment
abbrev pub is_ripe_by : ℕ → Key → Bool
is_ripe_by moment key = nat_le key.ripe moment

-- the key, if there is one that is ripe by the moment
abbrev pub if_ripe : ℕ → Option Key → Option Key
if_ripe moment key = option_and_then (λ k. if is_ripe_by moment k then Some k else None) key

-- each key is below those after it
abbrev pub IsInOrder : List Key → Type 0
IsInOrder keys = IsStrictlySortedBy key_cmp keys
