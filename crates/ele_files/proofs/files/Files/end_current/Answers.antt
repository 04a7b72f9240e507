use Rattle.ele_files.proofs.Lemmas.{ends, its_past}
use Rattle.ele_files.proofs.files.Files.end_current.Goals as goal

pub invariant_of-self : goal.invariant_of-self
invariant_of-self c = (ends _ _ _ c.self.invariant c.args.file _ _ (rw c.deref.ensures.value at c.in-Some.ensures) (rw (← c.get_mut-held.ensures.value) at c.index_mut.ensures.value) c.args.now c.end_before.new.self (rw (← c.self.view_is) at c.requires) c.end_before.ensures.ended).keeps

pub returns-in-Some : goal.returns-in-Some
returns-in-Some c = rw (← c.self.view_is) (ends _ _ _ c.self.invariant c.args.file _ _ (rw c.deref.ensures.value at c.in-Some.ensures) (rw (← c.get_mut-held.ensures.value) at c.index_mut.ensures.value) c.args.now c.end_before.new.self (rw (← c.self.view_is) at c.requires) c.end_before.ensures.ended).shows

pub end_before-requires-clause-past : goal.end_before-requires-clause-past
end_before-requires-clause-past c = its_past _ _ _ c.self.invariant c.args.file _ _ (rw c.deref.ensures.value at c.in-Some.ensures) (rw (← c.get_mut-held.ensures.value) at c.index_mut.ensures.value) c.args.now (rw (← c.self.view_is) at c.requires)
