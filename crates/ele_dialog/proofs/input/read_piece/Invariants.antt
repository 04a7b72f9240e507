use Rattle.std.specs.Io.KnownBytes.{Keeps}
use Rattle.ele_dialog.proofs.input.read_piece.Given as goal

-- a read that was interrupted took nothing
abbrev pub invariant-tries : goal.invariant-tries
invariant-tries g l = Keeps (g.R.Read.remaining l.fn.reader) (g.R.Read.remaining l.reader)
