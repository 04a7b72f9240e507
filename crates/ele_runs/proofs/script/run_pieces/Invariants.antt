use Rattle.ele_runs.proofs.Words.{noting, outlet}
use Rattle.ele_runs.proofs.Ran.{PutSoFar}
use Rattle.ele_runs.proofs.script.run_pieces.Given as goal

abbrev pub invariant-pieces : goal.invariant-pieces
invariant-pieces g l =
    PutSoFar (noting l.fn.runner (outlet g.E.Write.contents l.fn.reasons)) (noting l.runner (outlet g.E.Write.contents l.reasons)) l.room l.buffer (g.R.Read.remaining l.fn.reader) (g.R.Read.remaining l.reader) (outlet g.W.Write.contents l.fn.printer) (outlet g.W.Write.contents l.printer)

abbrev pub decreases-pieces : goal.decreases-pieces
decreases-pieces g l = l.room
