use Rattle.ele_dialog.proofs.Read.{Reading}
use Rattle.ele_dialog.proofs.input.read_line.Given as goal

-- the bytes of the line so far
abbrev pub invariant-bytes : goal.invariant-bytes
invariant-bytes g l = Reading (g.R.Read.remaining l.fn.reader) (g.R.Read.remaining l.reader) l.line.items
