-- Copies of a content's bytes into a caller's buffer.
use Rattle.std.specs.Prelude.{◌≡◌, ℕ, List, ◌++◌, length, take, drop}
use Rattle.ele_files.specs.declared.files.reading.Copied.{Copied}

-- the bytes from the offset on, as many as fit
abbrev pub piece_of : List ℕ → ℕ → ℕ → List ℕ
piece_of bytes offset room = take room (drop offset bytes)

-- that piece is at the start of the buffer, nothing else was written, and the result has the piece's length and the content's length
pub record IsCopied (bytes : List ℕ) (offset : ℕ) (old new : List ℕ) (copied : Copied) : Type 0 where
  pub whole : copied.length ≡ length bytes
  pub counted : copied.count ≡ length (piece_of bytes offset (length old))
  pub written : new ≡ piece_of bytes offset (length old) ++ drop copied.count old
