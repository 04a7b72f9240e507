use Rattle.std.proofs.Common.{sym, ◌∙◌}
use Rattle.std.proofs.lemmas.Bool.{MatchBool-at_false}
use Rattle.ele_tool_words.specs.Time.{SpellsTime}
use Rattle.ele_typed_words.specs.When.{IsOnDay, with_seconds}
use Rattle.ele_typed_words.proofs.when.read_unsigned.Goals as goal

pub returns-else-is_clock-clause-only : goal.returns-else-is_clock-clause-only
returns-else-is_clock-clause-only c = λ m h.
    c.read_whole.ensures.only m (MatchBool-at_false (IsOnDay c.args.now c.args.word.now m) (SpellsTime (with_seconds c.args.word.now) m) (sym c.is_clock.ensures ∙ c.if-is_clock.false) h)
