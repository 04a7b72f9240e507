use Rattle.ele_svg.proofs.curve.+step_in.Given as goal

abbrev pub decreases-step_in : goal.decreases-step_in
decreases-step_in l = l.tries
