use Rattle.ele_commands.proofs.Basics.{◌∷◌, drop, flat_map, join_with_byte, map}
use Rattle.ele_output.specs.Prints.{outlet}
use Rattle.ele_output.proofs.Known.{HasPut}
use Rattle.ele_commands.proofs.pieces.put_pieces.Given as goal

-- the pieces so far are printed, and the others are left
abbrev pub invariant-loop-piece : goal.invariant-loop-piece
invariant-loop-piece g l =
    HasPut (outlet g.W.Write.contents l.fn.printer) (outlet g.W.Write.contents l.printer) (join_with_byte 44 (map g.T.Piece.piece_text l.pieces)) (flat_map (λ piece. 44 ∷ g.T.Piece.piece_text piece) (drop l.piece-index l.rest))
