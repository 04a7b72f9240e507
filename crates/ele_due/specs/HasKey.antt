-- Whether a list has a key.
use Rattle.std.specs.Prelude.{Bool, List}
use Rattle.std.specs.List.{list_any}
use Rattle.ele_due.specs.declared.key.Key.{Key}
use Rattle.ele_due.specs.Key.{is_key}

-- whether one of them is the key
abbrev pub has_key : Key → List Key → Bool
has_key key keys = list_any (is_key key) keys
