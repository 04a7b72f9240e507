use Rattle.ele_sessions.proofs.Found.{stands_there}
use Rattle.ele_sessions.proofs.entries.handle_by.Goals as goal

pub returns-clause-number : goal.returns-clause-number
returns-clause-number c = (stands_there c.args.handles.now c.args.number c.in-Ok.place c.index-handles-place.result c.in-Ok.ensures.found c.index-handles-place.is).0

pub returns-clause-stands : goal.returns-clause-stands
returns-clause-stands c = (stands_there c.args.handles.now c.args.number c.in-Ok.place c.index-handles-place.result c.in-Ok.ensures.found c.index-handles-place.is).1
