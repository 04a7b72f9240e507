use Rattle.ele_commands.proofs.Basics.{length, encode_lower}
use Rattle.ele_output.specs.Prints.{outlet}
use Rattle.ele_output.proofs.Known.{HasPut}
use Rattle.ele_commands.proofs.byte_words.put_hexadecimal.Given as goal

-- the digits of the bytes so far are printed, and the others are left
abbrev pub invariant-pieces : goal.invariant-pieces
invariant-pieces g l =
    HasPut (outlet g.W.Write.contents l.fn.printer) (outlet g.W.Write.contents l.printer) (encode_lower l.bytes) (encode_lower l.rest)

abbrev pub decreases-pieces : goal.decreases-pieces
decreases-pieces g l = length l.rest
