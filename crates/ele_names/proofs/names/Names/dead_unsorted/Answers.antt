use Rattle.ele_names.proofs.Dead.{settled_begun, settled_next}
use Rattle.ele_names.proofs.Lemmas.{refl}
use Rattle.ele_names.proofs.names.Names.dead_unsorted.Goals as goal

pub loop-directory-init : goal.loop-directory-init
loop-directory-init c = rw (c.into_iter-directory-iterator.ensures.into_iter_gives, c.keys-directory-items.ensures.rest, c.new-found.ensures.items, ← c.self.view_is) (settled_begun c.self.inside c.self.invariant c.keys-directory-items.ensures.unique)

pub loop-directory-preserved : goal.loop-directory-preserved
loop-directory-preserved c =
    let was = rw c.in-Some.ensures.steps at c.loop-directory.invariant in
    rw c.in_ok-push_some.ensures (settled_next _ c.in-Some.field-0.now c.next.new.self c.loop-directory.found.items was c.last_dead_by-target.result c.last_dead_by-target.ensures.value)

pub returns-clause-apart : goal.returns-clause-apart
returns-clause-apart c = c.loop-directory.invariant.apart

pub returns-clause-found : goal.returns-clause-found
returns-clause-found c =
    let told = rw c.in-None.ensures.steps.0 at c.loop-directory.invariant in
    λ directory name. told.behind (directory, name) refl
