-- How a short text is stored in its fields. No public clause cites this module.
use Rattle.std.specs.Prelude.{◌≡◌, ℕ, ◌≤◌, List, take, length}
use Rattle.ele_path.specs.declared.text.Short.TheInside.{Inside}

-- the first bytes, as many as the text has
abbrev pub short_bytes : Inside → List ℕ
short_bytes short = take short.len short.bytes

-- the text has at most 22 bytes
pub record IsShort (short : Inside) : Type 0 where
  pub within : short.len ≤ 22
  pub whole : length short.bytes ≡ 22
