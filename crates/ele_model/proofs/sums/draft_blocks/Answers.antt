use Rattle.ele_model.proofs.Basics.{arith, nat_tests}
use Rattle.ele_model.proofs.Words.{is_file_of}
use Rattle.ele_model.proofs.SlotPlaces.{draft_places}
use Rattle.ele_model.proofs.sums.draft_blocks.Goals as goal

pub overflow_add-blocks : goal.overflow_add-blocks
overflow_add-blocks c = grind (arith, nat_tests, draft_places (is_file_of c.args.files.now c.args.kind) c.args.drafts.now c.loop-i.i c.index-drafts-i.result c.loop-i-test.true c.index-drafts-i.is, c.new_slots-blocks.ensures, c.as_slice.ensures)

pub loop-i-preserved : goal.loop-i-preserved
loop-i-preserved c = grind (arith, nat_tests, draft_places (is_file_of c.args.files.now c.args.kind) c.args.drafts.now c.loop-i.i c.index-drafts-i.result c.loop-i-test.true c.index-drafts-i.is, c.if-is_file_of.branch)
