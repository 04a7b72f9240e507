-- The texts of tags. No public clause cites this module.
use Rattle.std.specs.Prelude.{ℕ, Bool, true, List, [], ◌∷◌}
use Rattle.ele_path.specs.Tagged.{is_mark}

-- there is no text, or it begins with a mark
abbrev pub is_tag_text : List ℕ → Bool
is_tag_text [] = true
is_tag_text (byte ∷ text) = is_mark byte
