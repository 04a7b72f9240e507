use Rattle.std.proofs.lemmas.Option.{same_Some}
use Rattle.ele_tool_words.proofs.RungLists.{pair_same}
use Rattle.ele_tool_words.proofs.safe.with_floor.Goals as goal

pub returns-clause-only : goal.returns-clause-only
returns-clause-only c m n length number =
    pair_same _ _ (m, n) (same_Some _ _ (c.in-Some.ensures.only m length)) (same_Some _ _ (c.in-Some-read_number.ensures.only n number))
