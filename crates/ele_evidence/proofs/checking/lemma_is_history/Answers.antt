use Rattle.ele_evidence.proofs.Basics.{arith, subst, ◌≤◌}
use Rattle.ele_model.specs.World.{World}
use Rattle.ele_evidence.proofs.checking.lemma_is_history.Goals as goal

pub returns : goal.returns
returns g c limits base untrimmed =
    let few = subst (λ (w : World). c.count.result ≤ w.limits.events) base c.count.ensures.limit in
    let same = c.count.ensures.value in (
      record {
        base = base;
        untrimmed = untrimmed;
        events = c.entries.ensures.events;
        legal = c.entries.ensures.legal;
        few = omega (arith, few, same, untrimmed);
      },
      omega (arith, same, untrimmed),
    )
