-- Rows by the number of their place. No public clause cites this module.
use Rattle.std.specs.Prelude.{ℕ, suc, List, [], ◌∷◌, Option, Some, None, length}

-- the taken places, numbered from there on
abbrev pub entries_from : {X : Type 0} → ℕ → List (Option X) → List (ℕ × X)
entries_from n [] = []
entries_from n (None ∷ places) = entries_from (suc n) places
entries_from n (Some x ∷ places) = (n, x) ∷ entries_from (suc n) places

pub record Serials (X : Type 0) : Type 0 where
  pub entries : List (ℕ × X)
  pub made : ℕ

abbrev pub serials_of : {X : Type 0} → List (Option X) → Serials X
serials_of places = record { entries = entries_from 0 places; made = length places }
