-- The text of a ladder.
use Rattle.std.proofs.Common.{◌≡◌, ℕ, ◌≤◌, List, [], ◌∷◌, ◌++◌, length, map, take, ap, arith, append-nil}
use Rattle.std.proofs.lemmas.Grind.{common_steps}
use Rattle.std.specs.List.{join_with_byte, flat_map, IsFirstAndRest}
use Rattle.ele_policy.specs.Ladder.{Rung}
use Rattle.ele_policy.specs.PolicyText.{pair_word, ladder_word}

-- the first pair, and a comma and a pair for each other
joined_are : (first : List ℕ) (pairs : List Rung) → first ++ flat_map (λ (pair : Rung). 44 ∷ pair_word pair) pairs ≡ join_with_byte 44 (first ∷ map pair_word pairs)
joined_are first [] = append-nil first
joined_are first (pair ∷ pairs) = ap (λ (rest : List ℕ). first ++ 44 ∷ rest) (joined_are (pair_word pair) pairs)

pub pairs_are : (pairs : List Rung) (first : Rung) (rest : List Rung) (i : ℕ) → IsFirstAndRest pairs first rest → length rest ≤ i
    → pair_word first ++ flat_map (λ (pair : Rung). 44 ∷ pair_word pair) (take i rest) ≡ ladder_word pairs
pairs_are pairs first rest i is end = let whole : take i rest ≡ rest = grind (arith, common_steps) in rw (whole, is.0) (joined_are (pair_word first) rest)
