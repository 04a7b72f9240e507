use Rattle.ele_files.proofs.Words.{content_of, length, shown, take, ◌*◌, ◌++◌, ◌-◌, ◌≡◌}
use Rattle.std.proofs.Common.{drop}
use Rattle.std.specs.Prelude.{min}
use Rattle.ele_files.proofs.files.reading.copy_slots.Given as goal

abbrev pub invariant-loop-slot : goal.invariant-loop-slot
invariant-loop-slot l = record {
  count : l.done ≡ min (length l.fn.into) (min (512 * l.slot) l.map.size - l.fn.offset);
  bytes : l.into ≡ take l.done (drop l.fn.offset (content_of (shown l.store l.map))) ++ drop l.done l.fn.into;
}
