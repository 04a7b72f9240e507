-- The last element that passes a test.
use Rattle.std.specs.Prelude.{Bool, List, [], ◌∷◌, Option, Some, None, cond}
use Rattle.std.specs.Option.{option_or}

-- the last element that passes
abbrev pub last_passing : {X : Type 0} → (X → Bool) → List X → Option X
last_passing p [] = None
last_passing p (x ∷ xs) = option_or (last_passing p xs) (cond (p x) (Some x) None)

-- the value, if it passes
abbrev pub passing : {X : Type 0} → (X → Bool) → Option X → Option X
passing p None = None
passing p (Some x) = cond (p x) (Some x) None
