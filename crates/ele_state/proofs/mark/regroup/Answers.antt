use Rattle.ele_state.proofs.Words.{IsQueued, World, subst, sym}
use Rattle.ele_state.proofs.Changes.{moved_queue, refused_queue, returned_queue}
use Rattle.ele_state.proofs.Marked.{regroups}
use Rattle.ele_state.proofs.mark.regroup.Goals as goal

pub returns-in_err-put_changed-clause-tracked : goal.returns-in_err-put_changed-clause-tracked
returns-in_err-put_changed-clause-tracked c =
    let rows = c.args.rows.now in
    let are = rw (c.requires.files, c.requires.marks, ← c.deref.ensures.value) at c.in_ok-changes.ensures in
    record {
      queue = refused_queue _ _ _ _ _ (regroups _ c.args.change.now c.requires.sound.formed c.requires.leaving) c.deref.result.now are rows.queue c.requires.sound.tracked.queue c.put_changed.new.queue c.in_err-put_changed.ensures.err;
      book = c.requires.sound.tracked.book;
      bounds = c.requires.sound.tracked.bounds;
    }

pub returns-in-Err-clause-tracked : goal.returns-in-Err-clause-tracked
returns-in-Err-clause-tracked c =
    let rows = c.args.rows.now in
    let are = rw (c.requires.files, c.requires.marks, ← c.deref.ensures.value) at c.in_ok-changes.ensures in
    let back = rw (c.in-Err.ensures.err, c.deref-in-Err.ensures.value, ← c.deref.ensures.value) at c.take_back.ensures in
    rw c.in-Err.ensures.err (record {
      queue = returned_queue _ _ _ _ _ (regroups _ c.args.change.now c.requires.sound.formed c.requires.leaving) c.deref.result.now are rows.queue c.requires.sound.tracked.queue c.put_changed.new.queue c.take_back.new.queue c.in_ok-put_changed.ensures.ok back;
      book = c.requires.sound.tracked.book;
      bounds = c.requires.sound.tracked.bounds;
    })

pub returns-clause-tracked : goal.returns-clause-tracked
returns-clause-tracked c =
    let rows = c.args.rows.now in
    let are = rw (c.requires.files, c.requires.marks, ← c.deref.ensures.value) at c.in_ok-changes.ensures in
    let went = rw (c.in_default.ensures.kept, c.deref-2.ensures.value, ← c.deref.ensures.value) at c.remove_old_keys.ensures in
    record {
      queue = subst (λ (w : World). IsQueued w c.remove_old_keys.new.queue) (sym c.in_default.ensures.ok) (moved_queue _ _ _ _ _ (regroups _ c.args.change.now c.requires.sound.formed c.requires.leaving) c.deref.result.now are rows.queue c.requires.sound.tracked.queue c.put_changed.new.queue c.remove_old_keys.new.queue c.in_ok-put_changed.ensures.ok went);
      book = rw c.in_default.ensures.kept c.requires.sound.tracked.book;
      bounds = rw c.in_default.ensures.kept c.requires.sound.tracked.bounds;
    }
