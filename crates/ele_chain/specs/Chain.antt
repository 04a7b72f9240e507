-- Rows in a chain: below each is the hash of it and of the hash above it.
use Rattle.std.specs.Prelude.{ℕ, List, [], ◌∷◌, ◌++◌, codes}
use Rattle.hex.specs.Hex.{encode_lower}
use Rattle.sha2.specs.Sha256.{sha256}

-- the line of a hash: `= `, the SHA-256 of these bytes in hexadecimal digits, and a line feed (10)
abbrev pub hash_line : List ℕ → List ℕ
hash_line bytes = codes "= " ++ (encode_lower (sha256 bytes) ++ 10 ∷ [])

-- the rows, each with a line below it: the hash of the hash line above, and of the row
abbrev pub chained : List ℕ → List (List ℕ) → List ℕ
chained above [] = []
chained above (row ∷ rows) = row ++ (hash_line (above ++ row) ++ chained (hash_line (above ++ row)) rows)

-- the hash line below the last row
abbrev pub last_hash : List ℕ → List (List ℕ) → List ℕ
last_hash above [] = above
last_hash above (row ∷ rows) = last_hash (hash_line (above ++ row)) rows

-- what is hashed, row by row
abbrev pub hashed : List ℕ → List (List ℕ) → List (List ℕ)
hashed above [] = []
hashed above (row ∷ rows) = (above ++ row) ∷ hashed (hash_line (above ++ row)) rows
