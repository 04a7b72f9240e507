use Rattle.ele_script.proofs.Basics.{◌≡◌, map, drop}
use Rattle.ele_script.proofs.Prelude.{find_command}
use Rattle.ele_script.specs.CommandOf.{entry}
use Rattle.ele_script.proofs.command.find_command.Given as goal

-- no row so far is the command's
abbrev pub invariant-loop-row : goal.invariant-loop-row
invariant-loop-row l =
    find_command (map entry l.rows) (map (λ word. word.now) l.words) ≡ find_command (map entry (drop l.row-index l.rows)) (map (λ word. word.now) l.words)
