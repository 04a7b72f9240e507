-- What is drawn of a list, item after item, where what is drawn of one depends on those before it.
use Rattle.std.specs.Prelude.{ℕ, List, [], ◌∷◌, ◌++◌}

-- in each state, what an item draws, and the state that it leaves behind
unfoldable pub walked : {S A : Type 0} → (S → A → List ℕ) → (S → A → S) → S → List A → List ℕ
walked line next state [] = []
walked line next state (item ∷ items) = line state item ++ walked line next (next state item) items
