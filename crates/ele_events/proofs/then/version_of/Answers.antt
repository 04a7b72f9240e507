use Rattle.ele_events.proofs.HadVersions.{told_found}
use Rattle.ele_path.specs.declared.tagged.Tag.TheVariants as tag
use Rattle.ele_events.proofs.then.version_of.Goals as goal

pub returns : goal.returns
returns c = rw c.in-File.is (told_found c.args.state.now.world (tag.At c.args.moment) c.in-File.file c.in-Ok.found c.in-Ok.ensures)
