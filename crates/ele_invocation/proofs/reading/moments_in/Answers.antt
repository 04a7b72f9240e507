use Rattle.std.proofs.Common.{ℕ, List, [], Bor, subst, sym}
use Rattle.std.proofs.lemmas.List.{map_more}
use Rattle.std.proofs.lemmas.Slice.Zip.{all_zipped_more}
use Rattle.ele_invocation.specs.Forecasts.{SpellsAt}
use Rattle.ele_invocation.proofs.Spelled.{none_zips}
use Rattle.ele_invocation.proofs.reading.moments_in.Goals as goal

pub returns-in_default-clause-unread : goal.returns-in_default-clause-unread
returns-in_default-clause-unread c ys =
    none_zips (λ (word : Bor (List ℕ)). word.now) (SpellsAt c.args.now.now) c.args.words.now ys c.loop-word.word-index (record { ref_ptr = (0, 0); now = [] }) c.loop-word-test.true
    (λ y means. c.in_default.not-Some y (c.read_at.ensures.only y (subst (λ (w : List ℕ). SpellsAt c.args.now.now w y) (sym c.as_bytes.ensures.value) means)))

pub loop-word-preserved : goal.loop-word-preserved
loop-word-preserved c =
    rw (c.in_ok-push.ensures.items, map_more (λ (word : Bor (List ℕ)). word.now) c.args.words.now c.loop-word.word-index (record { ref_ptr = (0, 0); now = [] }) c.loop-word-test.true)
    (all_zipped_more (SpellsAt c.args.now.now) _ _ _ _ c.loop-word.invariant (subst (λ (w : List ℕ). SpellsAt c.args.now.now w c.in-Some.at) c.as_bytes.ensures.value c.in-Some.ensures.found))
