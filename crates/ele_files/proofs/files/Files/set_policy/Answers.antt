use Rattle.ele_files.proofs.Lemmas.{governs}
use Rattle.ele_files.proofs.files.Files.set_policy.Goals as goal

pub invariant_of-self : goal.invariant_of-self
invariant_of-self c = (governs _ _ _ c.self.invariant c.args.file c.args.policy _ _ (rw c.deref.ensures.value at c.in-Some.ensures) (rw (← c.get_mut.ensures.value) at c.index_mut.ensures.value)).keeps

pub returns-in-Some : goal.returns-in-Some
returns-in-Some c = rw (← c.self.view_is) (governs _ _ _ c.self.invariant c.args.file c.args.policy _ _ (rw c.deref.ensures.value at c.in-Some.ensures) (rw (← c.get_mut.ensures.value) at c.index_mut.ensures.value)).shows
