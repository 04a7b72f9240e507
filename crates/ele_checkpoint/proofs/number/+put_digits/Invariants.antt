use Rattle.ele_checkpoint.proofs.number.+put_digits.Given as goal

-- each call writes one byte fewer at most
abbrev pub decreases-put_digits : goal.decreases-put_digits
decreases-put_digits l = l.more
