use Rattle.ele_output.proofs.Basics.{Bor, List, ℕ, ◌∷◌, drop, map, join_with_byte, flat_map}
use Rattle.ele_output.specs.Prints.{outlet}
use Rattle.ele_output.proofs.Known.{HasPut}
use Rattle.ele_output.proofs.line.put_words.Given as goal

-- the words so far are put, and the others are left
abbrev pub invariant-loop-word : goal.invariant-loop-word
invariant-loop-word g l =
    HasPut (outlet g.W.Write.contents l.fn.printer) (outlet g.W.Write.contents l.printer) (join_with_byte 32 (l.first ∷ map (λ word. word.now) l.words)) (flat_map (λ (word : Bor (List ℕ)). 32 ∷ word.now) (drop l.word-index l.words))
