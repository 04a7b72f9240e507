use Rattle.ele_blocks.proofs.Cited.{ap, arith, back_ready, drop, drop_min, front_ready, is_laid, IsStaged, length, length-map, take, ◌+◌, ◌∙◌, ◌≡◌}
use Rattle.ele_blocks.proofs.store.leaves.lay_stage.Goals as goal
use Rattle.ele_blocks.proofs.store.leaves.lay_stage.Goals.{After-split_at, After-split_at-2}

its_count : (c : After-split_at) → length c.in_ok-fresh.fresh.items ≡ length c.args.stage.staged.items
its_count c = grind (arith, length-map, ap length c.in_ok-fresh.ensures.values)

staged : (c : After-split_at) → IsStaged c.args.blocks.now.slots c.put_all.new.self.slots c.args.stage.window.items c.args.stage.first c.in_ok-fresh.fresh.items
staged c = record { within = omega arith; there = c.requires.there; few = c.requires.few; small = omega (arith, its_count c); adds = c.in_ok-fresh.ensures.adds }

front : (c : After-split_at) → c.split_at.result.0.now ≡ take c.args.stage.first c.args.stage.window.items
front c = c.split_at.ensures.front ∙ ap (take c.args.stage.first) (c.deref.ensures.value ∙ c.in_ok-reserve.ensures.items)

back : (c : After-split_at-2) → length c.in_ok-fresh.fresh.items ≡ length c.args.stage.staged.items → c.split_at-2.result.1.now ≡ drop (c.args.stage.first + length c.in_ok-fresh.fresh.items) c.args.stage.window.items
back c count = grind (arith, drop_min)

pub share_all-requires : goal.share_all-requires
share_all-requires c =
    let at = (goal.at.share_all-requires c).After-split_at in
    grind (arith, front_ready (staged at), front at)

pub share_all-requires-2 : goal.share_all-requires-2
share_all-requires-2 c =
    let at = (goal.at.share_all-requires-2 c).After-split_at in
    grind (arith, back (goal.at.share_all-requires-2 c).After-split_at-2 (its_count at), front at, back_ready (staged at) c.share_all.new.blocks.slots, c.share_all.ensures)

pub returns-clause-laid : goal.returns-clause-laid
returns-clause-laid c =
    let at = (goal.at.returns-clause-laid c).After-split_at in
    grind (arith, is_laid (staged at) c.share_all.new.blocks.slots, front at, back (goal.at.returns-clause-laid c).After-split_at-2 (its_count at), c.share_all.ensures, c.share_all-2.ensures, c.in_ok-fresh.ensures.values, c.deref-3.ensures.value, c.in_ok-reserve.ensures.items, c.lay_slots.ensures)
