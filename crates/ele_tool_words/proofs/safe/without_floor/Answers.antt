use Rattle.std.proofs.Common.{refl}
use Rattle.std.proofs.lemmas.Option.{same_Some}
use Rattle.ele_tool_words.proofs.RungLists.{pair_same}
use Rattle.ele_tool_words.proofs.safe.without_floor.Goals as goal

pub returns-clause-only : goal.returns-clause-only
returns-clause-only c seconds is = pair_same _ _ (seconds, 0) (same_Some _ _ (c.in-Some.ensures.only seconds is)) refl
