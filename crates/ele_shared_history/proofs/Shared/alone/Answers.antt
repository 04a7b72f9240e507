use Rattle.std.proofs.Common.{ap, ◌∙◌, sym, refl}
use Rattle.ele_history.specs.Past.{count_of}
use Rattle.ele_shared_history.proofs.Ends.{opens}
use Rattle.ele_shared_history.proofs.Shared.alone.Goals as goal

pub new-requires : goal.new-requires
new-requires g c = opens c.of-opening.result.value c.count-count.result c.push.new.self.items
    (c.count-count.ensures.value ∙ ap count_of (sym c.of-opening.ensures)) (rw (c.in_default.ensures.items, c.new-slots.ensures.items, c.of-opening.ensures) refl)
