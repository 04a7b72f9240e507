use Rattle.ele_files.proofs.Lemmas.{IsGrown, cells_of_version, held_of, its_few, on_err, ready_past, restored, set, waits, ◌∙◌}
use Rattle.ele_files.proofs.files.Files.restore.Goals as goal
use Rattle.ele_files.proofs.files.Files.restore.Goals.{After-self-2-1}

pub invariant_of-self : goal.invariant_of-self
invariant_of-self c = (waits _ _ _ c.self.invariant c.args.file _ _ (rw c.deref.ensures.value at c.in-Some.ensures) (rw (← c.get_mut-held.ensures.value) at c.index_mut.ensures.value) c.reserve.new.self c.reserve.ensures.rows).keeps

pub returns-in_err-reserve-clause-err : goal.returns-in_err-reserve-clause-err
returns-in_err-reserve-clause-err c = on_err c.from_residual.result _ (rw (← c.self.view_is) (waits _ _ _ c.self.invariant c.args.file _ _ (rw c.deref.ensures.value at c.in-Some.ensures) (rw (← c.get_mut-held.ensures.value) at c.index_mut.ensures.value) c.reserve.new.self c.reserve.ensures.rows).shows)

pub invariant_of-self-in_err-map : goal.invariant_of-self-in_err-map
invariant_of-self-in_err-map c = rw c.in_err-map.ensures.err (waits _ _ _ c.self.invariant c.args.file _ _ (rw c.deref.ensures.value at c.in-Some.ensures) (rw (← c.get_mut-held.ensures.value) at c.index_mut.ensures.value) c.reserve.new.self c.reserve.ensures.rows).keeps

pub returns-in_err-map-clause-err : goal.returns-in_err-map-clause-err
returns-in_err-map-clause-err c = on_err c.from_residual-in_err-map.result _ (rw (← c.self.view_is, c.in_err-map.ensures.err) (waits _ _ _ c.self.invariant c.args.file _ _ (rw c.deref.ensures.value at c.in-Some.ensures) (rw (← c.get_mut-held.ensures.value) at c.index_mut.ensures.value) c.reserve.new.self c.reserve.ensures.rows).shows)

done : (c : After-self-2-1) → IsGrown c.copy.new.store (held_of c.self.inside) c.args.file (cells_of_version (held_of c.self.inside) c.args.file c.args.number) c.args.now c.args.is_live c.get_mut-held.result.now.next c.in_ok-map.map.size (set c.self.inside.files.items c.in-Some.at c.append.new.self) c.self.inside.sessions
done c = restored _ _ _ c.self.invariant c.args.file c.args.number (rw (← c.self.view_is) at c.requires.held) _ _ (rw c.deref.ensures.value at c.in-Some.ensures) (rw (← c.get_mut-held.ensures.value) at c.index_mut.ensures.value) c.reserve.new.self c.reserve.ensures.rows _ c.in-Some-get.ensures.row _ c.in_ok-map.ensures.moves (rw (← c.self.view_is) at c.requires.undrafted) c.args.now c.args.is_live _ c.in_ok-map.ensures.same _ c.append.ensures.appended (rw (← c.self.view_is) at c.requires.past)

pub invariant_of-self-2 : goal.invariant_of-self-2
invariant_of-self-2 c = (done c).keeps

pub returns-clause-number : goal.returns-clause-number
returns-clause-number c = rw (← c.self.view_is) (c.append.ensures.number ∙ (done c).number)

pub returns-clause-length : goal.returns-clause-length
returns-clause-length c = rw (← c.self.view_is) (c.append.ensures.length ∙ (done c).long)

pub returns-clause-ok : goal.returns-clause-ok
returns-clause-ok c = rw (← c.self.view_is) (done c).shows

pub append-requires-clause-past : goal.append-requires-clause-past
append-requires-clause-past c = ready_past _ _ _ c.self.invariant c.args.file _ _ (rw c.deref.ensures.value at c.in-Some.ensures) (rw (← c.get_mut-held.ensures.value) at c.index_mut.ensures.value) c.reserve.new.self c.reserve.ensures.rows c.args.now (rw (← c.self.view_is) at c.requires.past)

pub append-requires-clause-numbered : goal.append-requires-clause-numbered
append-requires-clause-numbered c = its_few _ _ _ c.self.invariant c.args.file _ _ (rw c.deref.ensures.value at c.in-Some.ensures) (rw (← c.get_mut-held.ensures.value) at c.index_mut.ensures.value) _ (rw (← c.self.view_is) at c.requires.numbered)
