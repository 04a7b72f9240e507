use Rattle.ele_runs.proofs.Basics.{◌≡◌, ◌≤◌, length, take, arith, sym, ◌∙◌}
use Rattle.std.proofs.lemmas.Result.{err_from_is_err_and}
use Rattle.ele_output.proofs.Known.{outputs_no_more, outputs_of, outputs_then}
use Rattle.ele_runs.proofs.Ends.{all_out, ends_over, ends_past, ends_by, ends_in_cut, ends_in_last, ends_in_piece, ends_last, ends_read, front_out, nothing_read, length_taken, read_only}
use Rattle.ele_runs.proofs.Pieces.{all_of, last_of}
use Rattle.ele_runs.proofs.Ran.{ran_none, ran_over, ran_on}
use Rattle.ele_runs.proofs.script.run_pieces.Goals as goal

pub pieces-init : goal.pieces-init
pieces-init g c = ran_none _ _ _ _ c.requires.empty c.requires.none c.requires.first c.requires.goes_on

pub returns-in_err-hand_over : goal.returns-in_err-hand_over
returns-in_err-hand_over g c =
    let p = err_from_is_err_and c.from_residual.result c.from_residual.ensures.1 in
    let so = c.pieces.invariant in
    let put = outputs_no_more so.put c.in_err-hand_over.ensures in
    rw (p.1, p.2) (put.same, front_out so.none put (ends_over so.ran), tt)

pub returns-in_err-count : goal.returns-in_err-count
returns-in_err-count g c =
    let p = err_from_is_err_and c.from_residual-in_err-count.result c.from_residual-in_err-count.ensures.1 in
    let so = ran_over c.pieces.invariant c.in_ok-hand_over.ensures in
    let failed = read_only _ _ c.most_of.result c.read_piece.new.piece _ c.in_err-count.ensures in
    rw (p.1, p.2, failed.1) (so.put.same, all_out so.none so.put c.in_ok-hand_over.ensures.1 (ends_read so.ran _ failed.0), tt)

pub returns-in_err-finish : goal.returns-in_err-finish
returns-in_err-finish g c =
    let p = err_from_is_err_and c.from_residual-in_err-finish.result c.from_residual-in_err-finish.ensures.1 in
    let so = ran_over c.pieces.invariant c.in_ok-hand_over.ensures in
    let none = nothing_read _ _ _ _ _ c.in_ok-count.ensures c.if-count-eq0.true in
    let put = outputs_then so.put c.in_err-finish.ensures.last.1 in
    rw (p.1, p.2) (put.same, front_out so.none put (ends_in_cut so.ran _ _ none.0 none.1 c.in_err-finish.ensures.noted), tt)

pub returns-then-count-eq0 : goal.returns-then-count-eq0
returns-then-count-eq0 g c =
    let so = ran_over c.pieces.invariant c.in_ok-hand_over.ensures in
    let none = nothing_read _ _ _ _ _ c.in_ok-count.ensures c.if-count-eq0.true in
    let done = c.in_ok-finish.ensures.last in
    let put = outputs_then so.put done.1.0 in
    (put.same, all_out so.none put done.1.1 (ends_by so.ran _ _ none.0 none.1 c.in_ok-finish.ensures.noted _ _ _ done.0.0 done.0.1 done.0.2), tt)

pub returns-then-left-eq0 : goal.returns-then-left-eq0
returns-then-left-eq0 g c =
    let so = ran_over c.pieces.invariant c.in_ok-hand_over.ensures in
    let past = ends_past so.ran _ c.read_piece.new.piece c.in_ok-count.count (sym (rw c.lines.ensures at c.left_of-left.ensures) ∙ c.if-left-eq0.true) (omega (arith, c.read_piece.auto.piece, c.pieces.auto.piece, c.requires.piece)) (omega (arith, c.if-count-eq0.false, c.in_ok-count.ensures.0, c.most_of.ensures.one c.if-left-eq0.true)) c.in_ok-count.ensures.1 in
    (so.put.same, all_out so.none so.put c.in_ok-hand_over.ensures.1 past, tt)

pub returns-in_err-answer_piece : goal.returns-in_err-answer_piece
returns-in_err-answer_piece g c =
    let p = err_from_is_err_and c.from_residual-in_err-answer_piece.result c.from_residual-in_err-answer_piece.ensures.1 in
    let so = ran_over c.pieces.invariant c.in_ok-hand_over.ensures in
    let did = c.in_err-answer_piece.ensures so.ran.part so.ran.is.are.cut so.ran.keeps in
    let put = outputs_then so.put (outputs_of did.put) in
    rw (p.1, p.2) (put.same, front_out so.none put (ends_in_piece so.ran _ _ _ _ _ c.in_ok-count.ensures.1 did), tt)

pub returns-in_err-hand_over-2 : goal.returns-in_err-hand_over-2
returns-in_err-hand_over-2 g c =
    let p = err_from_is_err_and c.from_residual-in_err-hand_over-2.result c.from_residual-in_err-hand_over-2.ensures.1 in
    let so = ran_over c.pieces.invariant c.in_ok-hand_over.ensures in
    let did = last_of _ (sym c.has_ended.ensures ∙ c.if-has_ended.true) (c.in_ok-answer_piece.ensures so.ran.part so.ran.is.are.cut so.ran.keeps) in
    let put = outputs_no_more (outputs_then so.put (outputs_of did.put)) c.in_err-hand_over-2.ensures in
    rw (p.1, p.2) (put.same, front_out so.none put (ends_in_last so.ran _ _ _ _ _ _ c.in_ok-count.ensures.1 did), tt)

pub returns-then-has_ended : goal.returns-then-has_ended
returns-then-has_ended g c =
    let so = ran_over c.pieces.invariant c.in_ok-hand_over.ensures in
    let did = last_of _ (sym c.has_ended.ensures ∙ c.if-has_ended.true) (c.in_ok-answer_piece.ensures so.ran.part so.ran.is.are.cut so.ran.keeps) in
    let put = outputs_no_more (outputs_then so.put (outputs_of did.put)) c.in_ok-hand_over-2.ensures.0 in
    rw (c.ended_by.ensures.lines, c.ended_by.ensures.line) (put.same, all_out so.none put c.in_ok-hand_over-2.ensures.1 (ends_last so.ran _ _ _ _ _ _ c.in_ok-count.ensures.1 did), tt)

pub pieces-preserved : goal.pieces-preserved
pieces-preserved g c =
    let so = ran_over c.pieces.invariant c.in_ok-hand_over.ensures in
    let taken : length (take c.in_ok-count.count c.read_piece.new.piece) ≡ c.in_ok-count.count = length_taken _ _ (omega (arith, c.in_ok-count.ensures.0, c.most_of.ensures.piece, c.read_piece.auto.piece, c.pieces.auto.piece, c.requires.piece)) in
    let few : c.most_of.result ≤ c.left_of-left.result = c.most_of.ensures.few (omega (arith, c.if-left-eq0.false)) in
    let left = rw c.lines.ensures at c.left_of-left.ensures in
    ran_on so
    (omega (arith, taken, few, c.in_ok-count.ensures.0, left, so.ran.count, so.ran.is.few_lines))
    (omega (arith, taken, c.if-count-eq0.false))
    (omega (arith, taken, few, c.in_ok-count.ensures.0, left))
    c.in_ok-count.ensures.1
    (all_of _ (sym c.has_ended.ensures ∙ c.if-has_ended.false) (c.in_ok-answer_piece.ensures so.ran.part so.ran.is.are.cut so.ran.keeps))
