-- When two slots are one block, and how many different ones there are.
use Rattle.std.specs.Prelude.{ℕ, ◌+◌, ◌==◌, ◌&&◌, Bool, List, [], ◌∷◌, if◌then◌else◌}
use Rattle.std.specs.List.{list_any}

-- a slot of a file as a version wrote it
pub record Place : Type 0 where
  pub file : ℕ
  pub slot : ℕ
  pub writer : ℕ

abbrev pub is_place : Place → Place → Bool
is_place p q = (p.file == q.file) && ((p.slot == q.slot) && (p.writer == q.writer))

-- how many items the list has that are different by the test
abbrev pub different : {X : Type 0} → (X → X → Bool) → List X → ℕ
different same [] = 0
different same (x ∷ xs) = (if list_any (λ y. same y x) xs then 0 else 1) + different same xs
