use Rattle.ele_rows.proofs.Headings.{ends_shown}
use Rattle.ele_rows.proofs.Words.{arith, length, nat_tests, sym, ◌∙◌}
use Rattle.std.proofs.Common.{◌<◌}
use Rattle.ele_rows.proofs.chunk.Chunk.ends_before.Goals as goal

pub returns : goal.returns
returns g c =
    let xs = c.self.inside.rows.items in
    let some : 0 < length xs = (let there = c.if-is_empty.ensures in let long = c.self.inside.rows.ok.0 in grind (arith, nat_tests)) in
    rw (← c.self.view_is) (c.is_behind.ensures ∙ sym (ends_shown g.T.Headed.head (g.C.Cut.before c.args.cut.now) c.self.inside.last xs some (rw (← c.self.invariant.heads) c.self.invariant.last)))
