-- What a writer holds if writing may have ended early.
use Rattle.std.specs.Prelude.{◌≡◌, ℕ, List, ◌++◌, Option, Result, Ok, Err}
use Rattle.std.specs.Io.KnownBytes.{Appends}

-- the known bytes grow by a prefix of these
pub record AppendsFront (old new : Option (List ℕ)) (bytes : List ℕ) : Type 0 where
  pub front : List ℕ
  pub back : List ℕ
  pub parts : bytes ≡ front ++ back
  pub written : Appends old new front

-- the text was written, or at a fault a prefix of it
abbrev pub WritesText : {A E : Type 0} → List ℕ → Option (List ℕ) → Option (List ℕ) → Result A E → Type 0
WritesText text old new (Ok _) = Appends old new text
WritesText text old new (Err _) = AppendsFront old new text
