use Rattle.ele_output.proofs.Basics.{◌≡◌, ℕ, List, ◌++◌, Appends}
use Rattle.ele_output.proofs.printer.write_all.Given as goal

-- a part is written, and the rest is left
abbrev pub invariant-parts : goal.invariant-parts
invariant-parts g l = (sent : List ℕ) × (l.bytes ≡ sent ++ l.rest) × Appends (g.W.Write.contents l.fn.writer) (g.W.Write.contents l.writer) sent
