use Rattle.ele_files.proofs.Lemmas.{Held, ap, is_version_of, list_any, option_map, sym, gone, kind_told, lives, none_left, Some, ◌∙◌}
use Rattle.ele_files.specs.declared.files.RemovedVersion.{RemovedVersion}
use Rattle.ele_files.proofs.Exchanges.{unheld}
use Rattle.ele_files.proofs.files.Files.remove_version.Goals as goal

pub invariant_of-self : goal.invariant_of-self
invariant_of-self c = (unheld _ _ _ c.self.invariant c.args.file c.args.number _ _ (rw c.deref.ensures.value at c.in_ok-at.ensures) (rw (← c.get_mut-held.ensures.value) at c.index_mut.ensures.value) c.remove.new.self c.remove.ensures.rows (sym c.in_err-row.ensures.row)).0.keeps

pub returns-in_err-row-clause-bytes : goal.returns-in_err-row-clause-bytes
returns-in_err-row-clause-bytes c = rw (← c.self.view_is, (unheld _ _ _ c.self.invariant c.args.file c.args.number _ _ (rw c.deref.ensures.value at c.in_ok-at.ensures) (rw (← c.get_mut-held.ensures.value) at c.index_mut.ensures.value) c.remove.new.self c.remove.ensures.rows (sym c.in_err-row.ensures.row)).1) (ap (option_map (λ (removed : RemovedVersion). removed.bytes)) c.from_residual-in_err-row.ensures)

pub returns-in_err-row-clause-rows : goal.returns-in_err-row-clause-rows
returns-in_err-row-clause-rows c = rw (← c.self.view_is) (unheld _ _ _ c.self.invariant c.args.file c.args.number _ _ (rw c.deref.ensures.value at c.in_ok-at.ensures) (rw (← c.get_mut-held.ensures.value) at c.index_mut.ensures.value) c.remove.new.self c.remove.ensures.rows (sym c.in_err-row.ensures.row)).0.shows

pub invariant_of-self-2 : goal.invariant_of-self-2
invariant_of-self-2 c = (gone _ _ _ c.self.invariant c.args.file c.args.number _ _ (rw c.deref.ensures.value at c.in_ok-at.ensures) (rw (← c.get_mut-held.ensures.value) at c.index_mut.ensures.value) c.remove.new.self c.remove.ensures.rows _ (sym c.in_ok-row.ensures.row) _ c.give_up.ensures).0.keeps

pub returns-clause-bytes : goal.returns-clause-bytes
returns-clause-bytes c = rw (← c.self.view_is, c.length-bytes.ensures) (sym (gone _ _ _ c.self.invariant c.args.file c.args.number _ _ (rw c.deref.ensures.value at c.in_ok-at.ensures) (rw (← c.get_mut-held.ensures.value) at c.index_mut.ensures.value) c.remove.new.self c.remove.ensures.rows _ (sym c.in_ok-row.ensures.row) _ c.give_up.ensures).1)

pub returns-clause-rows : goal.returns-clause-rows
returns-clause-rows c = rw (← c.self.view_is) (gone _ _ _ c.self.invariant c.args.file c.args.number _ _ (rw c.deref.ensures.value at c.in_ok-at.ensures) (rw (← c.get_mut-held.ensures.value) at c.index_mut.ensures.value) c.remove.new.self c.remove.ensures.rows _ (sym c.in_ok-row.ensures.row) _ c.give_up.ensures).0.shows

pub give_up-requires : goal.give_up-requires
give_up-requires c = lives _ _ _ c.self.invariant c.args.file c.args.number _ _ (rw c.deref.ensures.value at c.in_ok-at.ensures) (rw (← c.get_mut-held.ensures.value) at c.index_mut.ensures.value) c.remove.new.self c.remove.ensures.rows _ (sym c.in_ok-row.ensures.row)

pub returns-clause-kind : goal.returns-clause-kind
returns-clause-kind c = rw (← c.self.view_is) (kind_told _ _ _ c.self.invariant c.args.file c.args.number _ _ (rw c.deref.ensures.value at c.in_ok-at.ensures) (rw (← c.get_mut-held.ensures.value) at c.index_mut.ensures.value) c.remove.new.self c.remove.ensures.rows ∙ ap (λ k. Some k) (sym c.kind-kind.ensures))

pub returns-clause-last : goal.returns-clause-last
returns-clause-last c =
    let after = (gone _ _ _ c.self.invariant c.args.file c.args.number _ _ (rw c.deref.ensures.value at c.in_ok-at.ensures) (rw (← c.get_mut-held.ensures.value) at c.index_mut.ensures.value) c.remove.new.self c.remove.ensures.rows _ (sym c.in_ok-row.ensures.row) _ c.give_up.ensures).0.shows in
    none_left _ _ _ c.self.invariant c.args.file c.args.number _ _ (rw c.deref.ensures.value at c.in_ok-at.ensures) (rw (← c.get_mut-held.ensures.value) at c.index_mut.ensures.value) c.remove.new.self c.remove.ensures.rows c.is_empty-was_last.result c.is_empty-was_last.ensures ∙ ap (λ (h : Held). list_any (is_version_of c.args.file) h.versions) (sym after)
