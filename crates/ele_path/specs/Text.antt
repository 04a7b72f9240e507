-- The bytes of a text. No public clause cites this module.
use Rattle.std.specs.Prelude.{ℕ, List}
use Rattle.ele_path.specs.declared.text.Text.{Text}
use Rattle.ele_path.specs.declared.text.Text.TheVariants.{Short, Long}

-- the bytes, in place or not
abbrev pub bytes_of : Text → List ℕ
bytes_of (Short bytes) = bytes
bytes_of (Long held) = held.value.items
