use Rattle.ele_state.proofs.Words.{fresh_world, fresh_is, in_parts}
use Rattle.ele_state.proofs.Fresh.{no_usage, no_keys}
use Rattle.ele_state.proofs.State.new.Goals as goal

pub invariant_of-result-2 : goal.invariant_of-result-2
invariant_of-result-2 c = record {
  sound = record {
    formed = rw (c.in_ok-push.ensures.items, c.new-directories.ensures.items, c.new.ensures, c.new-2.ensures, c.new-3.ensures) (in_parts c.policies_are_lawful.ensures (fresh_world c.args.limits) (fresh_is c.args.limits c.lemma_within.ensures));
    tracked = record {
      queue = no_keys (record (fresh_world c.args.limits) { names = c.new.result; groups = c.new-3.result }) c.new-2.result c.new-4.result c.new-2.ensures c.new-4.ensures;
      book = no_usage c.new-2.result c.new-5.result c.new-2.ensures c.new-5.ensures;
      bounds = c.lemma_within.ensures;
    };
  };
  none_idle = rw c.new-2.ensures tt;
}
