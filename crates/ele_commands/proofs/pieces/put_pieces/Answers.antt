use Rattle.ele_commands.proofs.Basics.{◌∷◌, arith}
use Rattle.ele_commands.proofs.Words.{pieces_are}
use Rattle.std.proofs.lemmas.List.{nil_from_length}
use Rattle.ele_output.proofs.Known.{put_first, puts_nil}
use Rattle.ele_output.proofs.Lists.{list_done, list_more}
use Rattle.ele_commands.proofs.pieces.put_pieces.Goals as goal

pub returns-in_default : goal.returns-in_default
returns-in_default g c = rw (nil_from_length c.args.pieces.now c.in_default.ensures.cases) (puts_nil _)

pub loop-piece-init : goal.loop-piece-init
loop-piece-init g c = put_first (pieces_are _ _ _ _ c.in-Some.ensures.cases) c.put_piece.ensures

pub loop-piece-preserved : goal.loop-piece-preserved
loop-piece-preserved g c = list_more (λ piece. 44 ∷ g.T.Piece.piece_text piece) c.in-Some.rest.now c.loop-piece.piece-index c.piece-item.result (omega arith) c.piece-item.is c.loop-piece.invariant c.put_piece-in-loop-piece.ensures

pub returns : goal.returns
returns g c = list_done (λ piece. 44 ∷ g.T.Piece.piece_text piece) c.in-Some.rest.now c.loop-piece.piece-index c.loop-piece-test.false c.loop-piece.invariant
