use Rattle.ele_files.proofs.Lemmas.{IsGrown, cells_by, file_row, held_of, its_few, map, next_of, on_err, ready_past, saved, set, waits, ◌∙◌}
use Rattle.ele_files.proofs.files.Files.save.Goals as goal
use Rattle.ele_files.proofs.files.Files.save.Goals.{After-self-2-1}

pub invariant_of-self : goal.invariant_of-self
invariant_of-self c = (waits _ _ _ c.self.invariant c.args.file _ _ (rw c.deref.ensures.value at c.in-Some.ensures) (rw (← c.get_mut-held.ensures.value) at c.index_mut.ensures.value) c.reserve.new.self c.reserve.ensures.rows).keeps

pub returns-in_err-reserve-clause-err : goal.returns-in_err-reserve-clause-err
returns-in_err-reserve-clause-err c = on_err c.from_residual.result _ (rw (← c.self.view_is) (waits _ _ _ c.self.invariant c.args.file _ _ (rw c.deref.ensures.value at c.in-Some.ensures) (rw (← c.get_mut-held.ensures.value) at c.index_mut.ensures.value) c.reserve.new.self c.reserve.ensures.rows).shows)

pub invariant_of-self-in_err-write : goal.invariant_of-self-in_err-write
invariant_of-self-in_err-write c = rw c.in_err-write.ensures.err_store (waits _ _ _ c.self.invariant c.args.file _ _ (rw c.deref.ensures.value at c.in-Some.ensures) (rw (← c.get_mut-held.ensures.value) at c.index_mut.ensures.value) c.reserve.new.self c.reserve.ensures.rows).keeps

pub returns-in_err-write-clause-err : goal.returns-in_err-write-clause-err
returns-in_err-write-clause-err c = on_err c.from_residual-in_err-write.result _ (rw (← c.self.view_is, c.in_err-write.ensures.err_store) (waits _ _ _ c.self.invariant c.args.file _ _ (rw c.deref.ensures.value at c.in-Some.ensures) (rw (← c.get_mut-held.ensures.value) at c.index_mut.ensures.value) c.reserve.new.self c.reserve.ensures.rows).shows)

done : (c : After-self-2-1) → IsGrown c.write.new.store (held_of c.self.inside) c.args.file (cells_by (next_of (map file_row c.self.inside.files.items) c.args.file) c.args.bytes.now) c.args.now c.args.is_live c.get_mut-held.result.now.next c.write.new.self.size (set c.self.inside.files.items c.in-Some.at c.append.new.self) c.self.inside.sessions
done c = saved _ _ _ c.self.invariant c.args.file _ _ (rw c.deref.ensures.value at c.in-Some.ensures) (rw (← c.get_mut-held.ensures.value) at c.index_mut.ensures.value) c.reserve.new.self c.reserve.ensures.rows (rw (← c.self.view_is) at c.requires.undrafted) _ c.args.now c.args.is_live c.args.bytes.now _ (rw c.new-map.ensures at c.in_ok-write.ensures.written) _ c.append.ensures.appended (rw (← c.self.view_is) at c.requires.past)

pub invariant_of-self-2 : goal.invariant_of-self-2
invariant_of-self-2 c = (done c).keeps

pub returns-clause-number : goal.returns-clause-number
returns-clause-number c = rw (← c.self.view_is) (c.append.ensures.number ∙ (done c).number)

pub returns-clause-ok : goal.returns-clause-ok
returns-clause-ok c = rw (← c.self.view_is) (done c).shows

pub append-requires-clause-past : goal.append-requires-clause-past
append-requires-clause-past c = ready_past _ _ _ c.self.invariant c.args.file _ _ (rw c.deref.ensures.value at c.in-Some.ensures) (rw (← c.get_mut-held.ensures.value) at c.index_mut.ensures.value) c.reserve.new.self c.reserve.ensures.rows c.args.now (rw (← c.self.view_is) at c.requires.past)

pub append-requires-clause-numbered : goal.append-requires-clause-numbered
append-requires-clause-numbered c = its_few _ _ _ c.self.invariant c.args.file _ _ (rw c.deref.ensures.value at c.in-Some.ensures) (rw (← c.get_mut-held.ensures.value) at c.index_mut.ensures.value) _ (rw (← c.self.view_is) at c.requires.numbered)
