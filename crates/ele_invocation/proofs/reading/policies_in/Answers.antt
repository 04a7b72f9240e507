use Rattle.std.proofs.Common.{ℕ, List, [], Bor}
use Rattle.std.proofs.lemmas.List.{map_more}
use Rattle.std.proofs.lemmas.Slice.Zip.{all_zipped_more}
use Rattle.ele_invocation.specs.Forecasts.{AsksPolicy}
use Rattle.ele_invocation.proofs.Spelled.{none_zipped}
use Rattle.ele_invocation.proofs.reading.policies_in.Goals as goal

pub returns-in-Err-clause-unread : goal.returns-in-Err-clause-unread
returns-in-Err-clause-unread c =
    none_zipped (λ (word : Bor (List ℕ)). word.now) AsksPolicy c.args.words.now c.loop-word.word-index (record { ref_ptr = (0, 0); now = [] }) c.in-Err.why c.loop-word-test.true c.in-Err.ensures.unread

pub loop-word-preserved : goal.loop-word-preserved
loop-word-preserved c =
    rw (c.in_ok-push.ensures.items, map_more (λ (word : Bor (List ℕ)). word.now) c.args.words.now c.loop-word.word-index (record { ref_ptr = (0, 0); now = [] }) c.loop-word-test.true)
    (all_zipped_more AsksPolicy _ _ _ _ c.loop-word.invariant c.in-Ok.ensures.read)
