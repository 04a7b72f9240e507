use Rattle.ele_typed_words.specs.Reason.{safe_spelled}
use Rattle.ele_typed_words.proofs.reason.safe_text_reason.Goals as goal

pub returns-in-Some : goal.returns-in-Some
returns-in-Some c = safe_spelled c.in-Some.seconds c.in-Some.floor c.in-Some.ensures.found c.safe_reason.ensures
