use Rattle.std.proofs.Common.{refl, ◌++◌}
use Rattle.ele_words.specs.Evidence.{line_before}
use Rattle.ele_words.proofs.evidence.put_unrecorded.Goals as goal

pub returns-in-Line : goal.returns-in-Line
returns-in-Line g c =
    rw c.in-Line.is (line_before c.in-Line.number ++ c.put_unanswered.ensures.0, (c.put_unanswered.ensures.0, c.put_unanswered.ensures.1, refl), c.put_unanswered.ensures.2)

pub returns-in-Cut : goal.returns-in-Cut
returns-in-Cut g c = rw c.in-Cut.is (_, refl, c.put_cut.ensures)

pub returns-in-Trimmed : goal.returns-in-Trimmed
returns-in-Trimmed g c = rw c.in-Trimmed.is (_, refl, c.put.ensures)
