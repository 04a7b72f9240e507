use Rattle.ele_groups.proofs.Basics.{later-push, all-none, ◌==◌, ◌≡◌, false}
use Rattle.ele_groups.proofs.group.Group.add.Goals as goal

pub invariant_of-self-2 : goal.invariant_of-self-2
invariant_of-self-2 c = rw c.in_ok-push.ensures.items
    (later-push (λ x y. (x == y) ≡ false) c.self.inside.members.items c.args.file c.self.invariant (all-none (λ x. x == c.args.file) c.self.inside.members.items (rw (← c.self.view_is) at c.requires)))
