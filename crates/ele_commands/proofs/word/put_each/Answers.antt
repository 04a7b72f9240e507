use Rattle.ele_commands.proofs.Basics.{◌∷◌, arith}
use Rattle.ele_commands.proofs.Words.{so_more}
use Rattle.ele_commands.specs.Word.{IsWord, word_text}
use Rattle.ele_commands.specs.declared.word.Word.{Word}
use Rattle.ele_output.proofs.Lists.{list_done, list_more}
use Rattle.ele_commands.proofs.word.put_each.Goals as goal

pub loop-word-preserved : goal.loop-word-preserved
loop-word-preserved g c = record {
  put = list_more (λ (word : Word). 32 ∷ word_text word) c.args.words.now c.loop-word.word-index c.word-item.result (omega arith) c.word-item.is c.loop-word.invariant.put c.put.ensures;
  are = so_more IsWord c.args.words.now c.loop-word.word-index c.word-item.result (omega arith) c.word-item.is c.loop-word.invariant.are c.lemma_word.ensures;
}

pub returns-clause-text : goal.returns-clause-text
returns-clause-text g c = list_done (λ (word : Word). 32 ∷ word_text word) c.args.words.now c.loop-word.word-index c.loop-word-test.false c.loop-word.invariant.put
