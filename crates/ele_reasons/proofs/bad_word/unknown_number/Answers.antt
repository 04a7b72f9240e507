use Rattle.ele_reasons.proofs.Basics.{refl, sym, ◌∙◌}
use Rattle.ele_reasons.proofs.Unknown.{first_unknown, second_unknown}
use Rattle.ele_reasons.proofs.bad_word.unknown_number.Goals as goal

pub returns-then-begins_command : goal.returns-then-begins_command
returns-then-begins_command c = second_unknown _ _ _ (λ word. refl) (sym c.begins_command.ensures ∙ c.if-begins_command.true)

pub returns-else-begins_command : goal.returns-else-begins_command
returns-else-begins_command c = first_unknown _ _ _ (λ word. refl) (sym c.begins_command.ensures ∙ c.if-begins_command.false)
