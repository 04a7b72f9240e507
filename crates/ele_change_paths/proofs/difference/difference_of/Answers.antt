use Rattle.ele_change_paths.proofs.difference.difference_of.Goals as goal

pub returns : goal.returns
returns g c = rw c.in_ok-world.ensures at c.in_ok-rows.ensures
