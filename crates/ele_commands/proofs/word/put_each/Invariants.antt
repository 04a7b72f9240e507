use Rattle.ele_commands.proofs.Basics.{AllByRecursion, ◌∷◌, drop, flat_map}
use Rattle.ele_commands.specs.Word.{IsWord, word_text}
use Rattle.ele_commands.specs.declared.word.Word.{Word}
use Rattle.ele_output.specs.Prints.{outlet}
use Rattle.ele_output.proofs.Known.{HasPut}
use Rattle.ele_commands.proofs.word.put_each.Given as goal

-- the words so far are printed, and the others are left; if those that are left are valid, all are
abbrev pub invariant-loop-word : goal.invariant-loop-word
invariant-loop-word g l = record {
  put : HasPut (outlet g.W.Write.contents l.fn.printer) (outlet g.W.Write.contents l.printer) (flat_map (λ (word : Word). 32 ∷ word_text word) l.words) (flat_map (λ (word : Word). 32 ∷ word_text word) (drop l.word-index l.words));
  are : AllByRecursion IsWord (drop l.word-index l.words) → AllByRecursion IsWord l.words;
}
