-- Lists of keys in order, each key once.
use Rattle.std.specs.Prelude.{List, [], fold}
use Rattle.std.specs.BTreeSet.{insert_key}
use Rattle.ele_due.specs.declared.key.Key.{Key}
use Rattle.ele_due.specs.Key.{key_cmp}

-- each key at its place in the order
abbrev pub in_order : List Key → List Key
in_order keys = fold (insert_key key_cmp) [] keys
