-- The last element of a list.
use Rattle.std.specs.Prelude.{List, [], ◌∷◌, Option, Some, None}

-- the last element
abbrev pub last_of : {X : Type 0} → List X → Option X
last_of [] = None
last_of (x ∷ []) = Some x
last_of (x ∷ y ∷ xs) = last_of (y ∷ xs)

-- the list with f applied to its last element
abbrev pub update_last : {X : Type 0} → (X → X) → List X → List X
update_last f [] = []
update_last f (x ∷ []) = f x ∷ []
update_last f (x ∷ y ∷ xs) = x ∷ update_last f (y ∷ xs)
