use Rattle.ele_files.proofs.Lemmas.{arith, first_lives, maps_seen, nat_tests, opens, sym}
use Rattle.ele_files.proofs.files.Files.open_write.Goals as goal

pub invariant_of-self : goal.invariant_of-self
invariant_of-self c =
    let found = sym (rw c.deref.ensures.value at c.in-Some.ensures) in
    (opens _ _ _ c.self.invariant c.args.file _ found _ _ c.args.now _ (rw c.new-empty.ensures at c.first_map-map.ensures) _ c.open_write.ensures.sessions c.open_write.ensures.opens c.open_write.ensures.err c.open_write.ensures.err_store).0

pub returns-clause-ok : goal.returns-clause-ok
returns-clause-ok c =
    let found = sym (rw c.deref.ensures.value at c.in-Some.ensures) in
    rw (← c.self.view_is) (opens _ _ _ c.self.invariant c.args.file _ found _ _ c.args.now _ (rw c.new-empty.ensures at c.first_map-map.ensures) _ c.open_write.ensures.sessions c.open_write.ensures.opens c.open_write.ensures.err c.open_write.ensures.err_store).1

pub open_write-requires-clause-lives : goal.open_write-requires-clause-lives
open_write-requires-clause-lives c = grind (arith, nat_tests, first_lives)

pub open_write-requires-clause-few : goal.open_write-requires-clause-few
open_write-requires-clause-few c = grind (arith, nat_tests, maps_seen)
