use Rattle.ele_well_formed.proofs.Words.{None, Some, ap, arith, false, slice_get, true, ◌≡◌, length}
use Rattle.ele_well_formed.specs.Sharing.{contents}
use Rattle.ele_well_formed.proofs.KnownBytes.{content_there, differs, known_more, shared_more}
use Rattle.ele_well_formed.proofs.blocks.differing.Goals as goal

pub unreachable-requires : goal.unreachable-requires
unreachable-requires c =
    let w = c.args.flat.now in
    let none : slice_get (contents w) c.loop-at.at ≡ None = grind (arith, c.content_at.ensures, c.in_default.is, c.in_default.ensures) in
    let versions : length c.as_slice.result.now ≡ length w.versions = ap length c.as_slice.ensures in
    let drafts : length c.as_slice-2.result.now ≡ length w.drafts = ap length c.as_slice-2.ensures in
    content_there w c.loop-at.at (omega (arith, versions, drafts)) none

pub returns-then-not-branch-clause-some : goal.returns-then-not-branch-clause-some
returns-then-not-branch-clause-some c =
    let w = c.args.flat.now in
    let is : slice_get (contents w) c.loop-at.at ≡ Some (record { file = c.in-Some.file; cells = c.in-Some.cells.now }) = grind (arith, c.content_at.ensures, c.in-Some.is, c.in-Some.file-is, c.in-Some.cells-is, c.in-Some.ensures) in
    let no : c.in_ok-put_cells.field-0 ≡ false = grind (arith, c.if-not-branch.true) in
    differs (contents w) c.loop-at.at (record { file = c.in-Some.file; cells = c.in-Some.cells.now }) is c.loop-at.known c.loop-at.invariant.known (rw no at c.in_ok-put_cells.ensures.differ)

pub loop-at-preserved : goal.loop-at-preserved
loop-at-preserved c =
    let w = c.args.flat.now in
    let is : slice_get (contents w) c.loop-at.at ≡ Some (record { file = c.in-Some.file; cells = c.in-Some.cells.now }) = grind (arith, c.content_at.ensures, c.in-Some.is, c.in-Some.file-is, c.in-Some.cells-is, c.in-Some.ensures) in
    let yes : c.in_ok-put_cells.field-0 ≡ true = grind (arith, c.if-not-branch.false) in
    let puts = rw yes at c.in_ok-put_cells.ensures.same in
    record { known = known_more (contents w) c.loop-at.at (record { file = c.in-Some.file; cells = c.in-Some.cells.now }) is c.loop-at.known c.loop-at.invariant.known c.put_cells.new.known puts; shared = shared_more (contents w) c.loop-at.at (record { file = c.in-Some.file; cells = c.in-Some.cells.now }) is c.loop-at.known c.loop-at.invariant.known c.put_cells.new.known puts c.loop-at.invariant.shared }
