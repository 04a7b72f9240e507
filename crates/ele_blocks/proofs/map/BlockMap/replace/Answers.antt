use Rattle.ele_blocks.proofs.Cited.{ap, arith, drop, inside, IsRenewed, IsRun, laid_over, Layout, leaves_new, length, now_room, part_backed, part_owned, placed, replaced, slots_in, take, window_there, ◌*◌, ◌+◌, ◌-◌, ◌∙◌, ◌≡◌}
use Rattle.ele_blocks.proofs.map.BlockMap.replace.Goals as goal
use Rattle.ele_blocks.proofs.map.BlockMap.replace.Goals.{After-reserve, After-as_slice, After-deref, After-truncate, After-drop-now}

run : (c : After-reserve) → IsRun c.args.store.now c.args.self.now c.args.change.staged.items c.args.change.first c.args.change.kept c.run_of-run.result.from c.run_of-run.result.met c.run_of-run.result.to
run c = grind (arith, c.self.view_is, c.self.invariant, c.run_of-run.ensures, c.requires)

its_leaves : (c : After-as_slice) → c.reserve.new.self.items ≡ c.args.self.now.leaves
its_leaves c = c.reserve.ensures.items ∙ ap (λ (m : Layout). m.leaves) c.self.view_is

its_window : (c : After-truncate) → c.reserve.new.self.items ≡ c.args.self.now.leaves → c.truncate.new.self.items ≡ take (c.args.change.kept - 16 * c.run_of-run.result.from) (slots_in c.args.store.now (take (c.run_of-run.result.met - c.run_of-run.result.from) (drop c.run_of-run.result.from c.args.self.now.leaves)))
its_window c same = c.truncate.ensures.items ∙ ap (take (c.args.change.kept - 16 * c.run_of-run.result.from)) (rw (c.as_slice.ensures, same) at c.in_ok-window.ensures)

-- the new leaves
came : (c : After-deref) → c.reserve.new.self.items ≡ c.args.self.now.leaves → IsRenewed c.args.store.now c.renew.new.self (take (c.run_of-run.result.to - c.run_of-run.result.from) (drop c.run_of-run.result.from c.args.self.now.leaves)) (take (c.args.change.kept - 16 * c.run_of-run.result.from) (slots_in c.args.store.now (take (c.run_of-run.result.met - c.run_of-run.result.from) (drop c.run_of-run.result.from c.args.self.now.leaves)))) (c.args.change.first - 16 * c.run_of-run.result.from) c.args.change.writer c.args.change.staged.items c.in_ok-now.now.items
came c same = rw (c.as_slice-2.ensures, same, its_window (goal.at.lay-requires-clause-room c).After-truncate same) at c.in_ok-now.ensures.renewed

pub slots_in-requires : goal.slots_in-requires
slots_in-requires c = let at = goal.at.slots_in-requires c in grind (arith, c.as_slice.ensures, its_leaves at.After-as_slice, part_owned (run at.After-reserve) c.run_of-run.result.from (c.run_of-run.result.met - c.run_of-run.result.from))

pub renew-requires : goal.renew-requires
renew-requires c =
    let at = goal.at.renew-requires c in
    let h = run at.After-reserve in
    let same = its_leaves at.After-as_slice in
    grind (arith, c.as_slice-2.ensures, same, its_window at.After-truncate same, part_owned h c.run_of-run.result.from (c.run_of-run.result.to - c.run_of-run.result.from), part_backed h c.run_of-run.result.from (c.run_of-run.result.to - c.run_of-run.result.from), window_there h, inside h, c.truncate.new.self.ok)

pub lay-requires-clause-room : goal.lay-requires-clause-room
lay-requires-clause-room c = grind (arith, now_room, came, its_leaves)

new_leaves : (c : After-drop-now) → c.reserve.new.self.items ≡ c.args.self.now.leaves → c.lay.new.self.items ≡ take (c.run_of-run.result.from + length c.in_ok-now.now.items + (length c.args.self.now.leaves - c.run_of-run.result.to)) (laid_over c.run_of-run.result.from c.in_ok-now.now.items c.args.self.now.leaves)
new_leaves c same = grind (arith)

pub invariant_of-self-2 : goal.invariant_of-self-2
invariant_of-self-2 c =
    let at = goal.at.invariant_of-self-2 c in
    let h = run at.After-reserve in
    let same = its_leaves at.After-as_slice in
    let renewed = came at.After-deref same in
    grind (arith, c.requires.short, leaves_new h renewed (record { size = c.args.size; leaves = c.lay.new.self.items }) (new_leaves at.After-drop-now same ∙ placed h renewed), c.requires.count, c.args.change.staged.ok)

pub returns-clause-replaced : goal.returns-clause-replaced
returns-clause-replaced c =
    let at = goal.at.returns-clause-replaced c in
    let renewed = came at.After-deref (its_leaves at.After-as_slice) in
    replaced (run at.After-reserve) renewed (record { size = c.lay.new.self.size; leaves = c.lay.new.self.items }) (new_leaves at.After-drop-now (its_leaves at.After-as_slice) ∙ placed (run at.After-reserve) renewed)
