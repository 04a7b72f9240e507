use Rattle.ele_blocks.proofs.Cited.{ap, arith, counted, counted-more, take_all, Owned, room_of, subst, sym, ◌∙◌, ◌≡◌}
use Rattle.ele_blocks.proofs.shared.Shared.reserve.Goals as goal

-- a longer list of counts shows the same
same : (g : _) (c : goal.In_ok-resize g) → counted c.reserve.new.self.slots c.resize.new.self.items ≡ counted c.self.inside.values.slots c.self.inside.owners.items
same g c = grind (arith, take_all, counted-more)

pub invariant_of-self-in-Continue-branch-2 : goal.invariant_of-self-in-Continue-branch-2
invariant_of-self-in-Continue-branch-2 g c = subst Owned (sym (same g c)) c.self.invariant

pub returns-in_ok-resize-clause-room : goal.returns-in_ok-resize-clause-room
returns-in_ok-resize-clause-room g c = grind (arith, room_of c.reserve.new.self c.resize.new.self.items c.args.more, c.resize.new.self.ok.0, c.in_ok-resize.ensures.len, c.capacity-capacity.ensures.value)

pub returns-in_ok-resize-clause-same : goal.returns-in_ok-resize-clause-same
returns-in_ok-resize-clause-same g c = same g c ∙ ap (λ v. v.slots) c.self.view_is

pub returns-else-len-capacity-clause-room : goal.returns-else-len-capacity-clause-room
returns-else-len-capacity-clause-room g c = grind (arith, room_of c.reserve.new.self c.self.inside.owners.items c.args.more, c.self.inside.owners.ok.0, c.len.ensures, c.capacity-capacity.ensures.value)
