use Rattle.std.proofs.Common.{ℕ, List, [], Bor, map, ap, subst, sym}
use Rattle.std.proofs.lemmas.List.{map_more, take_all}
use Rattle.std.proofs.lemmas.List.Elements.{All-push}
use Rattle.std.specs.List.{All}
use Rattle.ele_invocation.specs.Forecasts.{IsPlain}
use Rattle.ele_invocation.proofs.reading.is_named.Goals as goal

pub loop-word-preserved : goal.loop-word-preserved
loop-word-preserved c =
    subst (All IsPlain) (sym (map_more (λ (word : Bor (List ℕ)). word.now) c.args.words.now c.loop-word.word-index (record { ref_ptr = (0, 0); now = [] }) c.loop-word-test.true))
    (All-push IsPlain _ _ c.loop-word.invariant c.if-not-is_plain.ensures)

pub returns : goal.returns
returns c =
    subst (All IsPlain) (ap (map (λ (word : Bor (List ℕ)). word.now)) (take_all c.loop-word.word-index c.args.words.now c.loop-word-test.false)) c.loop-word.invariant
