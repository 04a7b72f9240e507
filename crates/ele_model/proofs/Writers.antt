-- Who wrote the cells that a write or a truncate leaves.
use Rattle.ele_model.proofs.Basics.{nat_tests, ℕ, suc, zero, ◌≤◌, List, [], ◌∷◌, arith, all-any, all-map, all-weaker}
use Rattle.ele_model.proofs.Words.{Cell, writer_at, AreWrittenBy}
use Rattle.ele_content.specs.Content.{cells_after_write, cells_after_truncate}

writer_at-le : (number : ℕ) (cells : List Cell) (slot : ℕ) → AreWrittenBy number cells → writer_at cells slot ≤ number
writer_at-le number [] slot all = omega arith
writer_at-le number (cell ∷ cells) zero all = all.0
writer_at-le number (cell ∷ cells) (suc slot) all = writer_at-le number cells slot all.1

pub written_by : (number offset : ℕ) (bytes : List ℕ) (cells : List Cell) → AreWrittenBy number cells → AreWrittenBy number (cells_after_write number offset bytes cells)
unfolding cells_after_write
written_by number offset bytes cells all = grind (arith, nat_tests, all-map, all-any, writer_at-le)

pub truncated_by : (number size : ℕ) (cells : List Cell) → AreWrittenBy number cells → AreWrittenBy number (cells_after_truncate number size cells)
unfolding cells_after_truncate
truncated_by number size cells all = grind (arith, nat_tests, all-map, all-any, writer_at-le)

-- by more versions
pub written_more : (less more : ℕ) (cells : List Cell) → less ≤ more → AreWrittenBy less cells → AreWrittenBy more cells
written_more less more cells le all = all-weaker (λ cell. cell.writer ≤ less) (λ cell. cell.writer ≤ more) cells (λ cell h. omega (arith, h)) all
