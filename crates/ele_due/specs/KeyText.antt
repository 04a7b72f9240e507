-- The text of keys.
use Rattle.std.specs.Prelude.{ℕ, List, ◌∷◌, ◌++◌}
use Rattle.std.specs.Fmt.{decimal}
use Rattle.ele_due.specs.declared.key.Key.{Key}

-- the moment, the file and the number of a key, with a space (32) between each two
abbrev pub key_word : Key → List ℕ
key_word key = decimal key.ripe ++ 32 ∷ decimal key.file ++ 32 ∷ decimal key.number
