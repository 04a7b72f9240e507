use Rattle.ele_checkpoint.proofs.Checkpoints.{inside_alone, inside_found, inside_only}
use Rattle.ele_checkpoint.proofs.checkpoint.inside.Goals as goal

pub returns-clause-found : goal.returns-clause-found
returns-clause-found c = inside_found c.all_of.result c.args.body.now c.in_ok-rest.rest.now c.in_ok-rest.ensures.found c.all_of.ensures

pub returns-clause-only : goal.returns-clause-only
returns-clause-only c = inside_only c.all_of.result c.args.body.now c.in_ok-rest.rest.now c.in_ok-rest.ensures.found c.all_of.ensures

pub returns-clause-alone : goal.returns-clause-alone
returns-clause-alone c = inside_alone c.all_of.result c.args.body.now c.in_ok-rest.rest.now c.in_ok-rest.ensures.found c.all_of.ensures
