use Rattle.ele_sessions.specs.Inside.{file_in}
use Rattle.ele_sessions.proofs.Found.{gap_of}
use Rattle.ele_sessions.proofs.entries.place_of.Goals as goal

pub returns-clause-gap : goal.returns-clause-gap
returns-clause-gap c = rw (← c.file.view_is) (gap_of file_in c.file.inside.0 c.args.drafts.now c.place_of.result c.place_of.ensures.missing c.place_of.ensures.gap)
