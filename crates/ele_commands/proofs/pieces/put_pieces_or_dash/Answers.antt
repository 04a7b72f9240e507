use Rattle.ele_commands.proofs.Basics.{List, ℕ, ◌∷◌, sym, ap, ◌∙◌}
use Rattle.ele_commands.proofs.Words.{pieces_some}
use Rattle.ele_output.proofs.Known.{puts_as, puts_then}
use Rattle.ele_commands.proofs.pieces.put_pieces_or_dash.Goals as goal

pub returns-else-is_empty : goal.returns-else-is_empty
returns-else-is_empty g c =
    let text = pieces_some g.T.Piece.piece_text c.args.pieces.now (sym c.is_empty.ensures ∙ c.if-is_empty.false) in
    puts_as (sym (ap (λ (word : List ℕ). 32 ∷ word) text)) (puts_then c.put-else-is_empty.ensures c.put_pieces.ensures)
