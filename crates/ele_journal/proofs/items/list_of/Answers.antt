use Rattle.std.proofs.Common.{rules}
use Rattle.ele_checkpoint.specs.PartsRead.{list_at}
use Rattle.ele_journal.proofs.items.list_of.Goals as goal

pub returns-in_err-count : goal.returns-in_err-count
unfolding list_at
returns-in_err-count g c = search rules

pub returns : goal.returns
unfolding list_at
returns g c = search rules
