use Rattle.ele_state.proofs.Words.{SetFilePolicy, refl, sym, world_of, ◌∙◌}
use Rattle.ele_state.proofs.Changes.{moved_queue, refused_queue}
use Rattle.ele_state.proofs.Governed.{governed, governed_book}
use Rattle.ele_state.proofs.SoundAfter.{settled_by, unchanged}
use Rattle.ele_state.proofs.State.set_policy.Goals as goal

pub invariant_of-self : goal.invariant_of-self
invariant_of-self c =
    let rows = c.self.inside.rows in
    let move = governed (world_of rows) c.args.file c.in-Some.was c.args.policy c.self.invariant.sound.formed (sym c.policy_of.ensures ∙ c.in-Some.is) (rw (← c.self.view_is) at c.requires) c.lemma_valid.ensures.lawful in
    let are = rw (← c.deref.ensures.value, c.rule_in.ensures, c.rule_in-2.ensures, c.is_live-is_live.ensures) at c.in_ok-changes.ensures in
    unchanged rows _ c.self.view_is c.self.invariant _ refl (record {
      queue = refused_queue _ _ _ _ _ move c.deref.result.now are rows.queue c.self.invariant.sound.tracked.queue c.put_changed.new.queue c.in_err-put_changed.ensures.err;
      book = c.self.invariant.sound.tracked.book;
      bounds = c.self.invariant.sound.tracked.bounds;
    })

pub invariant_of-self-2 : goal.invariant_of-self-2
invariant_of-self-2 c =
    let rows = c.self.inside.rows in
    let filed = sym c.policy_of.ensures ∙ c.in-Some.is in
    let move = governed (world_of rows) c.args.file c.in-Some.was c.args.policy c.self.invariant.sound.formed filed (rw (← c.self.view_is) at c.requires) c.lemma_valid.ensures.lawful in
    let are = rw (← c.deref.ensures.value, c.rule_in.ensures, c.rule_in-2.ensures, c.is_live-is_live.ensures) at c.in_ok-changes.ensures in
    let went = rw (c.deref-2.ensures.value, ← c.deref.ensures.value) at c.remove_old_keys.ensures in
    settled_by rows _ c.self.view_is c.self.invariant (SetFilePolicy c.args.file c.args.policy) c.lemma_valid.ensures.given tt _ (rw c.set_policy.ensures refl) (rw c.set_policy.ensures (record {
      queue = moved_queue _ _ _ _ _ move c.deref.result.now are rows.queue c.self.invariant.sound.tracked.queue c.put_changed.new.queue c.remove_old_keys.new.queue c.in_ok-put_changed.ensures.ok went;
      book = governed_book rows c.args.file c.in-Some.was c.self.invariant.sound filed c.args.policy c.lemma_valid.ensures.lawful c.move_file.new.self (rw (c.kind.ensures, c.kind-2.ensures, c.in_ok-usage.ensures) at c.move_file.ensures.each);
      bounds = c.self.invariant.sound.tracked.bounds;
    }))
