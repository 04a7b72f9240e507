use Rattle.ele_state.proofs.Words.{◌≡◌, Bounded, HasNoIdle, HasParts, World, in_parts, subst, sym}
use Rattle.ele_model.specs.WellFormed.{IsWellFormed}
use Rattle.ele_policy.specs.Lawful.{PoliciesAreLawful}
use Rattle.ele_state.proofs.State.from_flat.Goals as goal

formed : (v w : World) → v ≡ w → PoliciesAreLawful → IsWellFormed w → HasParts v
formed v w is law whole = subst HasParts (sym is) (in_parts law w whole)

pub queue_of-requires-clause-formed : goal.queue_of-requires-clause-formed
queue_of-requires-clause-formed c = formed _ c.args.flat.now c.in_ok-rows.ensures.world c.policies_are_lawful.ensures c.requires.formed

pub book_of-requires-clause-formed : goal.book_of-requires-clause-formed
book_of-requires-clause-formed c = formed _ c.args.flat.now c.in_ok-rows.ensures.world c.policies_are_lawful.ensures c.requires.formed

pub invariant_of-result : goal.invariant_of-result
invariant_of-result c =
    let whole = formed _ c.args.flat.now c.in_ok-rows.ensures.world c.policies_are_lawful.ensures c.requires.formed in
    record {
      sound = record { formed = whole; tracked = record { queue = c.in_ok-rows-2.ensures; book = c.in_ok-rows-3.ensures; bounds = whole.holds Bounded } };
      none_idle = subst HasNoIdle (sym c.in_ok-rows.ensures.world) c.requires.idle;
    }
