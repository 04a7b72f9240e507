use Rattle.ele_files.proofs.Lemmas.{File, added_keeps, added_shows, refl, ◌∙◌}
use Rattle.ele_files.proofs.files.Files.add.Goals as goal

pub invariant_of-self-2 : goal.invariant_of-self-2
invariant_of-self-2 c =
    let f : File = record { id = c.args.id; policy = c.args.policy; next = 1; log = c.reserve-2.new.self } in
    rw (c.push_reserved.ensures.items, c.reserve.ensures.items, c.in_ok-boxed.ensures) (added_keeps _ _ _ c.self.invariant f refl (c.reserve-2.ensures.rows ∙ c.new-log.ensures) (rw (← c.self.view_is) at c.requires) c.args.now _ (rw c.new-empty.ensures at c.append-first.ensures.appended))

pub returns-clause-ok : goal.returns-clause-ok
returns-clause-ok c =
    let f : File = record { id = c.args.id; policy = c.args.policy; next = 1; log = c.reserve-2.new.self } in
    rw (← c.self.view_is, c.push_reserved.ensures.items, c.reserve.ensures.items, c.in_ok-boxed.ensures) (added_shows _ _ _ c.self.invariant f refl (c.reserve-2.ensures.rows ∙ c.new-log.ensures) (rw (← c.self.view_is) at c.requires) c.args.now _ (rw c.new-empty.ensures at c.append-first.ensures.appended))
