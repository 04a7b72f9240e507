use Rattle.std.specs.Prelude.{length}
use Rattle.ele_outlook.specs.Reading.{HaveRead}
use Rattle.ele_outlook.proofs.input.read_lines.Given as goal

-- the lines so far were read
abbrev pub invariant-lines : goal.invariant-lines
invariant-lines l =
    HaveRead l.form l.input l.rest l.read

abbrev pub decreases-lines : goal.decreases-lines
decreases-lines l = length l.rest
