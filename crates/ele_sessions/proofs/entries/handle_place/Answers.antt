use Rattle.ele_sessions.specs.Inside.{number_in}
use Rattle.ele_sessions.proofs.Found.{gap_of}
use Rattle.ele_sessions.proofs.entries.handle_place.Goals as goal

pub returns-clause-gap : goal.returns-clause-gap
returns-clause-gap c = rw (← c.number.view_is) (gap_of number_in c.number.inside.0 c.args.handles.now c.place_of.result c.place_of.ensures.missing c.place_of.ensures.gap)
