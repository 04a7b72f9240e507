use Rattle.ele_path.proofs.Texts.{names_of_text, text_is_path}
use Rattle.ele_path.proofs.path.Path.new.Goals as goal

pub invariant_of-result : goal.invariant_of-result
invariant_of-result c = rw c.in_ok-text.ensures.text (text_is_path _ (record { short = c.if-names-gt-MOST_NAMES.false; named = c.text_of_names.ensures.named }))

pub returns-clause-value : goal.returns-clause-value
returns-clause-value c = rw c.in_ok-text.ensures.text (names_of_text _ c.text_of_names.ensures.named)
