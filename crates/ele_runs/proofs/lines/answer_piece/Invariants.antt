use Rattle.ele_runs.proofs.Basics.{◌≡◌, ℕ, ◌+◌, ◌<◌, ◌^◌, false, List, length}
use Rattle.ele_runs.proofs.Words.{noting, outlet, line_unless_long, IsUnbroken}
use Rattle.ele_runs.proofs.Pieces.{HasAnswered}
use Rattle.ele_runs.proofs.lines.answer_piece.Given as goal

abbrev pub invariant-lines : goal.invariant-lines
invariant-lines g l =
    (l.runner.number + length l.rest < 2 ^ 64) × (l.runner.ended ≡ false) × (l.printer.has_failed ≡ false)
    × ((part : List ℕ) → IsUnbroken part → l.fn.buffer ≡ line_unless_long part → HasAnswered (noting l.fn.runner (outlet g.E.Write.contents l.fn.reasons)) (noting l.runner (outlet g.E.Write.contents l.reasons)) part l.piece l.rest l.buffer (outlet g.W.Write.contents l.fn.printer) (outlet g.W.Write.contents l.printer))

abbrev pub decreases-lines : goal.decreases-lines
decreases-lines g l = length l.rest
