use Rattle.ele_checkpoint.proofs.number.+digits_of.Given as goal

-- each call reads one byte fewer at most
abbrev pub decreases-digits_of : goal.decreases-digits_of
decreases-digits_of l = l.more
