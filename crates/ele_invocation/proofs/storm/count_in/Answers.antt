use Rattle.std.proofs.Common.{arith}
use Rattle.std.proofs.lemmas.Option.{same_Some}
use Rattle.ele_invocation.proofs.storm.count_in.Goals as goal

pub returns-in_default-clause-only : goal.returns-in_default-clause-only
returns-in_default-clause-only c n le is = c.in_default.ensures.only n is

pub returns-then-number-gt1000-clause-only : goal.returns-then-number-gt1000-clause-only
returns-then-number-gt1000-clause-only c n le is =
    absurd (omega (arith, c.if-number-gt1000.true, le, same_Some _ _ (c.in-Some.ensures.only n is)))

pub returns-clause-only : goal.returns-clause-only
returns-clause-only c n le is = c.in-Some.ensures.only n is
