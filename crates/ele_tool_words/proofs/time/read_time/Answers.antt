use Rattle.std.proofs.Common.{ap, ◌∙◌}
use Rattle.std.specs.Option.{ok_or}
use Rattle.ele_tool_words.proofs.Times.{dash_date, long_zoned}
use Rattle.ele_tool_words.proofs.time.read_time.Goals as goal

pub returns-then-word-ge19-clause-only : goal.returns-then-word-ge19-clause-only
returns-then-word-ge19-clause-only c = λ m h.
    c.ok_or.ensures.value ∙ ap (λ r. ok_or r _) (c.read_zoned.ensures.only m h.in_range (long_zoned c.args.word.now m c.if-word-ge19.true h))

pub returns-then-word-eq45-clause-only : goal.returns-then-word-eq45-clause-only
returns-then-word-eq45-clause-only c = λ m h.
    c.ok_or-then-word-eq45.ensures.value ∙ ap (λ r. ok_or r _) (c.read_date.ensures.only m (dash_date c.args.word.now m c.if-word-eq10.true c.if-word-eq45.true h))
