use Rattle.std.proofs.Common.{◌≡◌, ◌≤◌, map, take, length, ℕ, List, ◌+◌}
use Rattle.ele_reasons.proofs.Cuts.{AreFit}
use Rattle.ele_reasons.proofs.cut.first_words.Given as goal

-- these words were cut off, the first five are kept, and the next word has this number
abbrev pub invariant-words : goal.invariant-words
invariant-words l =
    (front : List (List ℕ)) × AreFit l.line front l.rest × (map (λ word. word.now) l.words.items ≡ take 5 front)
    × (l.number ≡ length front + 1) × (length front + length l.rest ≤ length l.line)

abbrev pub decreases-words : goal.decreases-words
decreases-words l = length l.rest
