use Rattle.ele_output.proofs.Known.{puts_then}
use Rattle.ele_commands.proofs.pieces.Tuple2U64U64Piece.put_piece.Goals as goal

pub returns : goal.returns
returns g c =
    puts_then c.put.ensures (puts_then c.put_number.ensures (
    puts_then c.put-2.ensures (c.put_number-2.ensures)))
