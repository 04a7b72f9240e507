-- A title in a document of XML.
use Rattle.std.specs.Prelude.{List, [], codes, if◌then◌else◌, nat_le, nat_lt, ℕ, ◌&&◌, ◌==◌, ◌||◌, ◌∷◌}
use Rattle.ele_svg_marks.specs.Walk.{walked}

-- a byte of a title: what XML reserves is written as a reference, and a control byte as a space
abbrev pub escaped_byte : ℕ → List ℕ
escaped_byte byte =
    if byte == 38 then codes "&amp;" else (if byte == 60 then codes "&lt;" else (if byte == 62 then codes "&gt;" else (if byte == 39 then codes "&#39;"
    else (if byte == 34 then codes "&quot;" else (if nat_lt byte 32 || (byte == 127) then codes " " else byte ∷ [])))))

-- the characters U+FFFE and U+FFFF begin with the bytes 239 and 191: how many of these a byte ends, after so many
abbrev pub begun_after : ℕ → ℕ → ℕ
begun_after begun byte = if byte == 239 then 1 else (if (begun == 1) && (byte == 191) then 2 else 0)

-- XML has no such characters: their third byte, 190 or 191, is written as 189, which makes U+FFFD of them
abbrev pub escaped_at : ℕ → ℕ → List ℕ
escaped_at begun byte = if (begun == 2) && (nat_le 190 byte && nat_le byte 191) then 189 ∷ [] else escaped_byte byte

abbrev pub escaped : List ℕ → List ℕ
escaped title = walked escaped_at begun_after 0 title

-- a title, or what stands in its place
abbrev pub titled : List ℕ → List ℕ
titled [] = codes "Retention forecast"
titled (byte ∷ bytes) = escaped (byte ∷ bytes)
