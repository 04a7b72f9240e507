use Rattle.ele_runs.proofs.TallyCounts.{tally_counts}
use Rattle.ele_runs.proofs.laws.tally_counts.Goals as goal

pub returns : goal.returns
returns c = tally_counts
