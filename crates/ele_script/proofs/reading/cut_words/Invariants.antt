use Rattle.ele_script.proofs.Basics.{map, length}
use Rattle.ele_script.proofs.Words.{AreCut}
use Rattle.ele_script.proofs.reading.cut_words.Given as goal

-- the words so far were cut off, and the rest is left
abbrev pub invariant-words : goal.invariant-words
invariant-words l = AreCut l.line (map (λ word. word.now) l.words.items) l.rest

abbrev pub decreases-words : goal.decreases-words
decreases-words l = length l.rest
