use Rattle.ele_rows.proofs.Headings.{dense_shown}
use Rattle.ele_rows.proofs.Words.{ap, arith, ◌∙◌}
use Rattle.ele_rows.proofs.chunk.Chunk.place_if_dense.Goals as goal

pub returns-in-Some : goal.returns-in-Some
returns-in-Some g c =
    let got = c.in-Some.ensures.lookup in
    let column = c.deref.ensures.value ∙ c.self.invariant.heads in
    rw (← c.self.view_is) (dense_shown g.T.Headed.head c.self.inside.rows.items c.args.key _ _ (rw (ap (λ v. v.items) c.self.view_is) c.requires) (rw column at got.3.0) (rw column at got.3.1) (grind arith))
