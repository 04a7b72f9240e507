use Rattle.ele_commands.proofs.Basics.{sym, append_assoc, [], ◌∷◌}
use Rattle.std.specs.Fmt.{decimal}
use Rattle.std.specs.Option.{option_map_or}
use Rattle.ele_output.proofs.Known.{puts_as, puts_then}
use Rattle.ele_commands.proofs.pieces.MarkRowPiece.put_piece.Goals as goal

pub returns : goal.returns
returns g c = puts_as (sym (sym (append_assoc c.args.before.now (decimal c.args.self.now.at) (option_map_or (λ end. 47 ∷ decimal end) c.args.self.now.until [])))) (puts_then (rw c.seconds.ensures.value at c.put_with_number.ensures) c.put_end.ensures)
