use Rattle.ele_script.proofs.PairWords.{unslashed, bad_age, bad_width, made_pair}
use Rattle.ele_script.proofs.pairs.read_pair.Goals as goal

pub returns-in_err-slash_in-clause-none : goal.returns-in_err-slash_in-clause-none
returns-in_err-slash_in-clause-none c = unslashed c.args.word.now _ c.in_err-slash_in.ensures c.from_residual.ensures

pub returns-in_err-read_number-clause-none : goal.returns-in_err-read_number-clause-none
returns-in_err-read_number-clause-none c =
    bad_age _ _ _ _ c.in_ok-slash_in.ensures c.split_at.ensures.front c.in_err-read_number.ensures.only c.from_residual-in_err-read_number.ensures

pub returns-in_err-read_number-2-clause-none : goal.returns-in_err-read_number-2-clause-none
returns-in_err-read_number-2-clause-none c =
    bad_width _ _ _ _ _ c.in_ok-slash_in.ensures c.split_at.ensures.back c.split_at-2.ensures.back c.in_err-read_number-2.ensures.only c.from_residual-in_err-read_number-2.ensures

pub returns-clause-some : goal.returns-clause-some
returns-clause-some c =
    made_pair _ _ _ _ _ _ _ c.in_ok-slash_in.ensures c.split_at.ensures.front c.split_at.ensures.back c.split_at-2.ensures.back c.in_ok-read_number.ensures.found c.in_ok-read_number-2.ensures.found
