use Rattle.std.specs.Option.{option_or}
use Rattle.ele_renewal.proofs.Words.{None, Some, cond, is_written_by, nat_lt, ℕ, ◌&&◌, ◌==◌, ◌≡◌}
use Rattle.ele_renewal.specs.Writers.{writer_in}
use Rattle.ele_renewal.proofs.writers.put_blocks.Given as goal

-- the blocks of the slots so far are known
abbrev pub invariant-loop-slot : goal.invariant-loop-slot
invariant-loop-slot l = (other slot writer : ℕ) → writer_in l.known other slot writer
    ≡ option_or (writer_in l.initial.known other slot writer) (cond ((l.file == other) && (nat_lt slot l.slot && is_written_by writer l.cells slot)) (Some l.number) None)
