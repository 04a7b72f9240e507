use Rattle.ele_state.proofs.Words.{ap, comes, if_changed, is_entry, list_any-append, sym, ◌∙◌}
use Rattle.ele_state.proofs.policy.freed.Goals as goal

pub loop-newer-preserved : goal.loop-newer-preserved
loop-newer-preserved c = λ k.
    ap (λ changes. comes changes k) c.in_ok-add_change.ensures
    ∙ list_any-append (λ change. is_entry change.file change.number change.is k) c.loop-newer.changes.items (if_changed c.freed_key.result)
    ∙ rw (c.loop-newer.invariant k) (sym (c.freed_key.ensures k))
