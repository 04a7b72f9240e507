use Rattle.ele_commands.proofs.Basics.{sym, ◌∙◌}
use Rattle.ele_commands.proofs.Words.{digits_split, digits_none}
use Rattle.ele_output.proofs.Known.{put_all, put_more}
use Rattle.ele_commands.proofs.byte_words.put_hexadecimal.Goals as goal

pub pieces-preserved : goal.pieces-preserved
pieces-preserved g c = put_more c.pieces.invariant (digits_split _ _ _ _ c.split_at.ensures.front c.split_at.ensures.back) c.put_piece.ensures

pub returns : goal.returns
returns g c = put_all c.pieces.invariant (digits_none _ (sym c.is_empty.ensures ∙ c.pieces-test.false))
