use Rattle.ele_output.proofs.Basics.{Bor, List, ℕ, ◌∷◌}
use Rattle.ele_output.proofs.Known.{put_first, put_more}
use Rattle.ele_output.proofs.Lists.{here, joined_are, list_done}
use Rattle.ele_output.proofs.line.put_words.Goals as goal

pub loop-word-init : goal.loop-word-init
loop-word-init g c = put_first (joined_are 32 (λ (word : Bor (List ℕ)). word.now) c.args.first.now c.args.words.now) c.put.ensures

pub loop-word-preserved : goal.loop-word-preserved
loop-word-preserved g c = put_more c.loop-word.invariant (here (λ (word : Bor (List ℕ)). 32 ∷ word.now) c.args.words.now c.loop-word.word-index _ c.loop-word-test.true) c.put_word.ensures

pub returns : goal.returns
returns g c = list_done (λ (word : Bor (List ℕ)). 32 ∷ word.now) c.args.words.now c.loop-word.word-index c.loop-word-test.false c.loop-word.invariant
