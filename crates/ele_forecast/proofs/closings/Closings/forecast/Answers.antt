use Rattle.std.proofs.Common.{Some, None, arith, sym, ◌+◌, ◌-◌, ◌∙◌}
use Rattle.std.proofs.lemmas.Option.{slice_get_within}
use Rattle.ele_forecast.proofs.Lives.{next_from, next_rises, tells_current, tells_followed}
use Rattle.ele_forecast.proofs.closings.Closings.forecast.Goals as goal

pub followed-requires-clause-rises : goal.followed-requires-clause-rises
followed-requires-clause-rises c = next_rises c.args.self.now c.args.place c.at-closed.result c.in-Some.ended c.lemma_sorted.ensures.rises c.at-closed.ensures (next_from c.args.self.now c.args.place c.next.result (Some c.in-Some.ended) c.next.ensures c.in-Some.is)

pub followed-requires-clause-numbered : goal.followed-requires-clause-numbered
followed-requires-clause-numbered c = omega (arith, slice_get_within c.args.self.now (c.args.place + 1) c.in-Some.ended (sym c.next.ensures ∙ c.in-Some.is), c.lemma_sorted.ensures.few)

pub returns-in-Some-clause-tells : goal.returns-in-Some-clause-tells
returns-in-Some-clause-tells c v is =
    let next = next_from c.args.self.now c.args.place c.next.result (Some c.in-Some.ended) c.next.ensures c.in-Some.is in
    tells_followed c.args.policy.now c.args.self.now v is c.lemma_sorted.ensures.rises c.args.place c.at-closed.result c.at-closed.ensures c.in-Some.ended next c.followed.result (c.len.result - c.args.place - 1) (omega (arith, c.len.ensures)) c.followed.ensures.number (λ row behind f closes ends numbered. c.followed.ensures.tells v row behind f closes ends numbered)

pub returns-in-None-clause-tells : goal.returns-in-None-clause-tells
returns-in-None-clause-tells c v is =
    let last = next_from c.args.self.now c.args.place c.next.result None c.next.ensures c.in-None.is in
    tells_current c.args.policy.now c.args.self.now v is c.lemma_sorted.ensures.rises c.args.place c.at-closed.result c.at-closed.ensures c.current.result c.current.ensures.number last (λ row closes ends. c.current.ensures.tells v row closes ends)
