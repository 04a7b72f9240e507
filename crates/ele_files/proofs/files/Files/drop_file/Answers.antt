use Rattle.ele_files.proofs.Lemmas.{drops_at}
use Rattle.ele_files.proofs.files.Files.drop_file.Goals as goal

pub invariant_of-self : goal.invariant_of-self
invariant_of-self c = rw (c.take_out.ensures) (drops_at _ _ _ c.self.invariant c.args.file (rw (← c.self.view_is) at c.requires) c.in-Some.at (rw c.deref.ensures.value at c.in-Some.ensures)).keeps

pub returns-in-Some : goal.returns-in-Some
returns-in-Some c = rw (← c.self.view_is, c.take_out.ensures) (drops_at _ _ _ c.self.invariant c.args.file (rw (← c.self.view_is) at c.requires) c.in-Some.at (rw c.deref.ensures.value at c.in-Some.ensures)).shows
