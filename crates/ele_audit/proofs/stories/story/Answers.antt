use Rattle.ele_audit.proofs.Basics.{arith, nat_tests}
use Rattle.ele_audit.proofs.Tells.{tells_before}
use Rattle.ele_audit.specs.Removals.{removals}
use Rattle.ele_history.specs.Past.{world_of}
use Rattle.ele_audit.proofs.stories.story.Goals as goal

pub returns-in-Some : goal.returns-in-Some
returns-in-Some g c =
    tells_before (removals c.args.history.now.base c.args.history.now.entries) (world_of c.args.history.now) c.args.path.now c.in-Err.refusal c.in-Some.seen c.in_ok-story_of-in-Some.field-0
    (grind (arith, nat_tests, c.file_told.ensures, c.in-Err.is, c.as_slice.ensures, c.in_ok-world.ensures, c.core.ensures))
    (rw c.in-Some.is at c.in_ok-seen-in-Err.ensures)
    c.in_ok-story_of-in-Some.ensures.file c.in_ok-story_of-in-Some.ensures.versions c.in_ok-story_of-in-Some.ensures.names
