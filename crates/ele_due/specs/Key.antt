-- The order of keys, and tests of one key.
use Rattle.std.specs.Prelude.{Bool}
use Rattle.std.specs.declared.cmp.Ordering.{Ordering}
use Rattle.std.specs.Ordering.{nat_cmp, ordering_then}
use Rattle.std.specs.BTreeMap.{is_at}
use Rattle.ele_due.specs.declared.key.Key.{Key}

-- by the moment, then by the file, then by the number
abbrev pub key_cmp : Key → Key → Ordering
key_cmp a b = ordering_then (nat_cmp a.ripe b.ripe) (ordering_then (nat_cmp a.file b.file) (nat_cmp a.number b.number))

-- whether the two are one key
abbrev pub is_key : Key → Key → Bool
is_key a b = is_at (key_cmp a) b
