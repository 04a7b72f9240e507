use Rattle.ele_state.proofs.Words.{Bounded, arith, refl, whole_versions, world_of}
use Rattle.ele_state.proofs.OfRows.{is_booked, no_usage_yet, one_more_fits, one_more_usage}
use Rattle.std.proofs.lemmas.List.{take_all}
use Rattle.ele_state.proofs.derived.book_of.Goals as goal

pub loop-file-init : goal.loop-file-init
loop-file-init c = no_usage_yet (world_of c.args.rows.now) c.new-book.result c.new-book.ensures

pub usage_of-requires : goal.usage_of-requires
usage_of-requires c = let formed = c.requires.formed in omega (arith, whole_versions (world_of c.args.rows.now) formed (formed.holds Bounded))

pub add-requires : goal.add-requires
add-requires c =
    rw (c.kind.ensures, c.in_ok-usage.ensures) (one_more_fits (world_of c.args.rows.now) c.requires.formed c.args.files.now c.requires.files c.loop-file.file-index c.file-item.result c.loop-file-test.true c.file-item.is c.loop-file.book c.loop-file.invariant)

pub loop-file-preserved : goal.loop-file-preserved
loop-file-preserved c =
    one_more_usage (world_of c.args.rows.now) c.requires.formed c.args.files.now c.requires.files c.loop-file.file-index c.file-item.result c.loop-file-test.true c.file-item.is c.loop-file.book c.add.new.self (rw (c.kind.ensures, c.in_ok-usage.ensures) at c.add.ensures.each) c.loop-file.invariant

pub returns : goal.returns
returns c =
    let has = rw (take_all c.loop-file.file-index c.args.files.now c.loop-file-test.false) at c.loop-file.invariant in
    is_booked c.args.rows.now.files (world_of c.args.rows.now) c.args.files.now c.loop-file.book c.requires.files refl refl has
