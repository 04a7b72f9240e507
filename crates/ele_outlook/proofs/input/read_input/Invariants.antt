use Rattle.std.specs.Io.KnownBytes.{Consumes}
use Rattle.ele_outlook.proofs.input.read_input.Given as goal

-- what was read so far is kept
abbrev pub invariant-pieces : goal.invariant-pieces
invariant-pieces g l = Consumes (g.R.Read.remaining l.fn.reader) (g.R.Read.remaining l.reader) l.input.items
