use Rattle.ele_runs.proofs.RepliesKeepHeadline.{replies_keep_headline}
use Rattle.ele_runs.proofs.laws.replies_keep_headline.Goals as goal

pub returns : goal.returns
returns c = replies_keep_headline c.headline.ensures
