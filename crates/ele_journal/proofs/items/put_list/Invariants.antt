use Rattle.std.proofs.Common.{◌≡◌, ◌++◌, drop}
use Rattle.std.specs.List.{flat_map}
use Rattle.ele_checkpoint.specs.Lists.{list_text}
use Rattle.ele_journal.proofs.items.put_list.Given as goal

-- the items so far are written, and the others are left
abbrev pub invariant-loop-item : goal.invariant-loop-item
invariant-loop-item g l = l.out.items ++ flat_map g.T.Item.spelling (drop l.item-index l.items) ≡ l.fn.out.items ++ list_text g.T.Item.spelling l.items
