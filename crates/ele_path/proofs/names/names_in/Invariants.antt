use Rattle.ele_path.proofs.Basics.{◌≡◌, eqb, take}
use Rattle.std.specs.List.{count_by}
use Rattle.ele_path.proofs.names.names_in.Given as goal

-- the slashes so far
abbrev pub invariant-loop-byte : goal.invariant-loop-byte
invariant-loop-byte l = l.slashes ≡ count_by (λ byte. eqb byte 47) (take l.byte-index l.text)
