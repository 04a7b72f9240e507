use Rattle.std.proofs.Common.{◌≡◌, ◌-◌, suc, [], arith}
use Rattle.std.proofs.lemmas.List.{nil_from_length}
use Rattle.std.proofs.lemmas.Option.{MatchOption-at_none}
use Rattle.std.proofs.lemmas.Result.{err_from_is_err_and}
use Rattle.ele_checkpoint.proofs.Numbers.{at_end, at_last, at_full, fails_more, give_more}
use Rattle.ele_checkpoint.proofs.number.+digits_of.Goals as goal

pub returns-in_default : goal.returns-in_default
returns-in_default t c =
    let none : c.args.bytes.now ≡ [] = nil_from_length c.args.bytes.now (MatchOption-at_none _ _ c.in_default.is c.split_first.ensures.cases) in
    rw (c.wrong.ensures, none) (at_end c.args.more)

pub returns-then-first-lt128 : goal.returns-then-first-lt128
returns-then-first-lt128 t c = rw c.in-Some.ensures.cases.0 (at_last c.args.more c.in-Some.first.now c.in-Some.rest.now c.if-first-lt128.true)

pub returns-then-more-eq0 : goal.returns-then-more-eq0
returns-then-more-eq0 t c = rw (c.wrong-then-more-eq0.ensures, c.in-Some.ensures.cases.0, c.if-more-eq0.true) (at_full c.in-Some.first.now c.in-Some.rest.now (omega arith))

pub returns-in_err-high : goal.returns-in_err-high
returns-in_err-high t c =
    let p = err_from_is_err_and c.from_residual.result c.from_residual.ensures.1 in
    let more : c.args.more ≡ suc (c.args.more - 1) = omega arith in
    rw (p.1, p.2, c.in-Some.ensures.cases.0, more) (fails_more c.in_err-high.field-0.0 (c.args.more - 1) c.in-Some.first.now c.in-Some.rest.now (omega arith) c.in_err-high.ensures)

pub returns : goal.returns
returns t c = give_more c.joined.result c.args.more c.in-Some.first.now c.in-Some.rest.now c.args.bytes.now (c.in_ok-high.high, c.in_ok-high.after.now) (omega arith) (omega arith) c.in-Some.ensures.cases.0 c.in_ok-high.ensures c.joined.ensures
