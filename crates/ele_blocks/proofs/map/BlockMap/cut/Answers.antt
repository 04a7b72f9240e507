use Rattle.ele_blocks.proofs.Cited.{arith, content_of, cut_change, cut_long, cut_reach, length, pieces, refl, shown, slot_bytes, sym, take, ◌*◌, ◌+◌, ◌-◌, ◌/◌, ◌≡◌}
use Rattle.ele_blocks.proofs.map.BlockMap.cut.Goals as goal
use Rattle.ele_blocks.proofs.map.BlockMap.cut.Goals.{In_ok-staged}

pub slice_bounds-pieces-length : goal.slice_bounds-pieces-length
slice_bounds-pieces-length c = rw c.bytes_at-last.ensures (sym (cut_long c.args.store.now c.args.self.now c.args.writer c.args.size (c.args.size / 512) c.div_ceil-kept.result (pieces (take (c.args.size - 512 * (c.args.size / 512)) (slot_bytes (content_of (shown c.args.store.now c.args.self.now)) (c.args.size / 512)))) c.requires.lives c.requires.shorter refl (omega arith) refl))

its_pieces : (c : In_ok-staged) → c.in_ok-staged.staged.items ≡ pieces (take (c.args.size - 512 * (c.args.size / 512)) (slot_bytes (content_of (shown c.args.store.now c.args.self.now)) (c.args.size / 512)))
its_pieces c = rw c.bytes_at-last.ensures at c.in_ok-staged.ensures

all_reached : (c : In_ok-staged) → c.args.size / 512 + length c.in_ok-staged.staged.items ≡ c.div_ceil-kept.result
all_reached c = cut_reach c.args.store.now c.args.self.now c.args.writer c.args.size (c.args.size / 512) c.div_ceil-kept.result c.in_ok-staged.staged.items c.requires.lives c.requires.shorter refl (omega arith) (its_pieces c)

pub replace-requires-clause-behind : goal.replace-requires-clause-behind
replace-requires-clause-behind c lt = absurd (omega (arith, lt, all_reached (goal.at.replace-requires-clause-behind c).In_ok-staged, c.in_ok-staged.staged.ok))

pub replace-requires-clause-count : goal.replace-requires-clause-count
replace-requires-clause-count c = omega (arith, all_reached (goal.at.replace-requires-clause-count c).In_ok-staged, c.in_ok-staged.staged.ok)

pub returns-clause-resized : goal.returns-clause-resized
returns-clause-resized c = cut_change c.args.store.now c.args.self.now c.args.writer c.args.size (c.args.size / 512) c.div_ceil-kept.result c.in_ok-staged.staged.items c.requires.lives c.requires.shorter refl (omega arith) (its_pieces (goal.at.returns-clause-resized c).In_ok-staged) c.replace.new.store c.replace.new.self c.in_ok-replace.ensures.size c.in_ok-replace.ensures.replaced
