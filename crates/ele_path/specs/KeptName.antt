-- The bytes of a kept name. No public clause cites this module.
use Rattle.std.specs.Prelude.{ℕ, List}
use Rattle.ele_path.specs.declared.kept_name.Letters.{Letters}
use Rattle.ele_path.specs.declared.kept_name.Letters.TheVariants.{Short, Long}

-- the bytes, in place or not
abbrev pub letters_of : Letters → List ℕ
letters_of (Short bytes) = bytes
letters_of (Long held) = held.value
