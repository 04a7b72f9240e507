use Rattle.ele_events.proofs.HadVersions.{row_of}
use Rattle.ele_model.proofs.Basics.{arith, nat_tests}
use Rattle.ele_content.specs.Content.{content_of}
use Rattle.ele_events.proofs.saving.restore_name.Goals as goal

pub returns-in-Err : goal.returns-in-Err
returns-in-Err c = λ row held. let is = row_of c.args.state.now.world c.args.from c.args.number row held in grind (arith, nat_tests, c.in-Err.ensures.refused (c.args.directory, c.args.name) (content_of row.cells))

pub returns-in_err-bytes : goal.returns-in_err-bytes
returns-in_err-bytes c = λ row held. let is = row_of c.args.state.now.world c.args.from c.args.number row held in grind (arith, nat_tests)

pub returns-in_err-make_saved : goal.returns-in_err-make_saved
returns-in_err-make_saved c = λ row held. let is = row_of c.args.state.now.world c.args.from c.args.number row held in grind (arith, nat_tests)

pub returns-then-is_none : goal.returns-then-is_none
returns-then-is_none c = λ row held. let is = row_of c.args.state.now.world c.args.from c.args.number row held in grind (arith, nat_tests)

pub returns-in-Err-refuse_if : goal.returns-in-Err-refuse_if
returns-in-Err-refuse_if c = λ row held. let is = row_of c.args.state.now.world c.args.from c.args.number row held in grind (arith, nat_tests)

pub returns-in-Err-room_for : goal.returns-in-Err-room_for
returns-in-Err-room_for c = λ row held. let is = row_of c.args.state.now.world c.args.from c.args.number row held in grind (arith, nat_tests)

pub returns-in-Err-room_for-2 : goal.returns-in-Err-room_for-2
returns-in-Err-room_for-2 c = λ row held. let is = row_of c.args.state.now.world c.args.from c.args.number row held in grind (arith, nat_tests)

pub returns-in_err-revive : goal.returns-in_err-revive
returns-in_err-revive c = λ row held. let is = row_of c.args.state.now.world c.args.from c.args.number row held in grind (arith, nat_tests)

pub returns : goal.returns
returns c = λ row held. let is = row_of c.args.state.now.world c.args.from c.args.number row held in grind (arith, nat_tests)
