use Rattle.std.proofs.Common.{arith}
use Rattle.ele_checkpoint.proofs.Numbers.{joined_padded, joined_large, joined_again}
use Rattle.ele_checkpoint.proofs.number.joined.Goals as goal

pub returns-then-high-eq0 : goal.returns-then-high-eq0
returns-then-high-eq0 c = rw c.wrong.ensures (joined_padded c.args.first c.args.bytes.now c.args.high c.args.after.now (omega arith) c.if-high-eq0.true)

pub returns-then-high-gt-MOST_HIGH : goal.returns-then-high-gt-MOST_HIGH
returns-then-high-gt-MOST_HIGH c = rw c.wrong-then-high-gt-MOST_HIGH.ensures (joined_large c.args.first c.args.bytes.now c.args.high c.args.after.now (omega arith) c.if-high-eq0.false (omega arith))

pub returns : goal.returns
returns c = joined_again c.args.first c.args.bytes.now c.args.high c.args.after.now (omega arith) (omega arith) (omega arith)
