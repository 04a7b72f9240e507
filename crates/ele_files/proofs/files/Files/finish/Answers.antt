use Rattle.ele_files.proofs.Lemmas.{IsFinished, Some, ap, closed, finished, given, held_of, its_few, its_map, on_err, option_and_then, ready_past, set, sym, waits, ◌∙◌, ◌≡◌}
use Rattle.ele_files.proofs.files.Files.finish.Goals as goal
use Rattle.ele_files.proofs.files.Files.finish.Goals.{After-self-2-1}

pub invariant_of-self : goal.invariant_of-self
invariant_of-self c = (waits _ _ _ c.self.invariant c.args.file _ _ (rw c.deref.ensures.value at c.in-Some.ensures) (rw (← c.get_mut-held.ensures.value) at c.index_mut.ensures.value) c.reserve.new.self c.reserve.ensures.rows).keeps

pub returns-in_err-reserve-clause-err : goal.returns-in_err-reserve-clause-err
returns-in_err-reserve-clause-err c =
    on_err c.from_residual.result _ (rw (← c.self.view_is) (waits _ _ _ c.self.invariant c.args.file _ _ (rw c.deref.ensures.value at c.in-Some.ensures) (rw (← c.get_mut-held.ensures.value) at c.index_mut.ensures.value) c.reserve.new.self c.reserve.ensures.rows).shows)

done : (c : After-self-2-1) → IsFinished c.self.inside.store (held_of c.self.inside) c.args.handle.now.row.number c.args.file c.args.opened c.args.now c.args.is_live c.get_mut-held.result.now.next c.in-Some-map.map.size (set c.self.inside.files.items c.in-Some.at c.append.new.self) (closed c.self.inside.sessions c.args.handle.now.row.number)
done c =
    let out : given c.self.inside.sessions c.args.handle.now.row.number ≡ Some c.in-Some-map.map = ap (option_and_then (λ answer. answer.1)) (sym c.close_found-closing.ensures.answer) ∙ c.in-Some-map.is in
    finished _ _ _ c.args.handle.now.row.number c.args.file c.args.opened c.self.invariant (rw (← c.self.view_is) at c.requires.file) (rw (← c.self.view_is) at c.requires.changed) _ _ (rw c.deref.ensures.value at c.in-Some.ensures) (rw (← c.get_mut-held.ensures.value) at c.index_mut.ensures.value) _ c.reserve.ensures.rows c.args.now c.args.is_live _ out _ c.append.ensures.appended (rw (← c.self.view_is) at c.requires.past) c.close_found-closing.ensures.orderly.drafts_rise

pub invariant_of-self-2 : goal.invariant_of-self-2
invariant_of-self-2 c = rw c.close_found-closing.ensures.sessions (done c).keeps

pub returns-clause-number : goal.returns-clause-number
returns-clause-number c = rw (← c.self.view_is) (c.append.ensures.number ∙ (done c).number)

pub returns-clause-length : goal.returns-clause-length
returns-clause-length c = rw (← c.self.view_is) (c.append.ensures.length ∙ (done c).long)

pub returns-clause-ok : goal.returns-clause-ok
returns-clause-ok c = rw (← c.self.view_is, c.close_found-closing.ensures.sessions) (done c).shows

pub unreachable-requires-in_default-map : goal.unreachable-requires-in_default-map
unreachable-requires-in_default-map c =
    let none = ap (option_and_then (λ answer. answer.1)) c.close_found-closing.ensures.answer in
    let some = its_map _ _ _ c.args.handle.now.row.number c.args.file c.args.opened c.self.invariant (rw (← c.self.view_is) at c.requires.file) (rw (← c.self.view_is) at c.requires.changed) in
    cc

pub append-requires-clause-past : goal.append-requires-clause-past
append-requires-clause-past c = ready_past _ _ _ c.self.invariant c.args.file _ _ (rw c.deref.ensures.value at c.in-Some.ensures) (rw (← c.get_mut-held.ensures.value) at c.index_mut.ensures.value) c.reserve.new.self c.reserve.ensures.rows c.args.now (rw (← c.self.view_is) at c.requires.past)

pub append-requires-clause-numbered : goal.append-requires-clause-numbered
append-requires-clause-numbered c = its_few _ _ _ c.self.invariant c.args.file _ _ (rw c.deref.ensures.value at c.in-Some.ensures) (rw (← c.get_mut-held.ensures.value) at c.index_mut.ensures.value) _ (rw (← c.self.view_is) at c.requires.numbered)
