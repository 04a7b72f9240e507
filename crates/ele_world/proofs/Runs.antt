-- What is true of each world of a run from a world that has it, and so from the fresh one.
use Rattle.ele_model.proofs.Basics.{◌≡◌, List, [], ◌∷◌, AllByRecursion, sym, subst}
use Rattle.ele_model.proofs.Words.{IsEvent, PoliciesAreLawful, World, fresh_world, run_of, step}
use Rattle.ele_model.proofs.Formed.{in_parts, well_formed}
use Rattle.ele_model.proofs.NoIdle.{no_idle_stays, runs_have_none}
use Rattle.ele_model.proofs.Reached.{fresh_is_start}
use Rattle.ele_model.proofs.StepKeeps.{fresh_is, step_keeps}
use Rattle.ele_model.specs.declared.event.Event.{Event}
use Rattle.ele_model.specs.Start.{IsStart}
use Rattle.ele_model.specs.NoIdleStays.{NoIdleStaysInFreshRuns, NoIdleStaysInRuns}
use Rattle.ele_world.proofs.OneContent.{one_content_stays, runs_have_one}
use Rattle.ele_world.proofs.OneTree.{one_tree as tree_stays, runs_are}
use Rattle.ele_world.proofs.Writing.{drafts_written, runs_have_writers}
use Rattle.ele_world.specs.DraftsWritten.{DraftsWrittenInFreshRuns, DraftsWrittenInRuns}
use Rattle.ele_world.specs.OneContent.{OneContentInFreshRuns, OneContentInRuns}
use Rattle.ele_world.specs.OneTree.{OneTreeInFreshRuns, OneTreeInRuns}
use Rattle.ele_world.specs.StartStays.{ReachedIsStart, StartStays}

pub no_idle : PoliciesAreLawful → NoIdleStaysInRuns
no_idle law start events formed none are = runs_have_none start events are (in_parts law start formed) none

pub no_idle_fresh : PoliciesAreLawful → NoIdleStaysInFreshRuns
no_idle_fresh law limits events bounds are = no_idle law (fresh_world limits) events (fresh_is limits bounds) tt are

pub writers : PoliciesAreLawful → DraftsWrittenInRuns
writers law start events formed have are = runs_have_writers start events are (in_parts law start formed) have

pub writers_fresh : PoliciesAreLawful → DraftsWrittenInFreshRuns
writers_fresh law limits events bounds are = writers law (fresh_world limits) events (fresh_is limits bounds) tt are

pub one_content : PoliciesAreLawful → OneContentInRuns
one_content law start events formed have are = runs_have_one start events are (in_parts law start formed) have

pub one_content_fresh : PoliciesAreLawful → OneContentInFreshRuns
one_content_fresh law limits events bounds are = one_content law (fresh_world limits) events (fresh_is limits bounds) (fresh_is_start limits bounds).contents are

pub one_tree : PoliciesAreLawful → OneTreeInRuns
one_tree law start events formed tree are = runs_are start events are (in_parts law start formed) tree

pub one_tree_fresh : PoliciesAreLawful → OneTreeInFreshRuns
one_tree_fresh law limits events bounds are = one_tree law (fresh_world limits) events (fresh_is limits bounds) (record { top = tt; hang = tt }) are

-- ---- all of them together

pub start_stays : PoliciesAreLawful → StartStays
start_stays law w event is begins =
    let k = in_parts law w begins.formed in record {
      formed = well_formed ((step w event).1) (step_keeps w event is k);
      idle = no_idle_stays w event k begins.idle;
      tree = tree_stays w event k begins.tree;
      writers = drafts_written w event k begins.writers;
      contents = one_content_stays w event k begins.contents;
    }

runs_go_on : PoliciesAreLawful → (w : World) (events : List Event) → AllByRecursion IsEvent events → IsStart w → IsStart (run_of w events)
runs_go_on law w [] are begins = begins
runs_go_on law w (event ∷ events) are begins = runs_go_on law ((step w event).1) events are.1 (start_stays law w event are.0 begins)

pub reached_is_start : PoliciesAreLawful → ReachedIsStart
reached_is_start law w led = subst IsStart (sym led.run.world) (runs_go_on law led.start led.run.events led.run.are led.begins)
