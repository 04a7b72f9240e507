use Rattle.std.proofs.Common.{refl}
use Rattle.ele_space.proofs.removals.removals_under.Goals as goal

pub returns : goal.returns
returns c =
    record {
      word = rw (c.as_slice.ensures.value, c.new-word.ensures.items) at c.in_ok-extend_from_slice.ensures.items;
      due = rw (c.as_slice-forecasts.ensures.value, c.as_slice-2.ensures.value) at c.in_ok-due.ensures;
    }
