use Rattle.ele_files.proofs.Lemmas.{AllByRecursion, List, LivesIn, LogRow, Meets, log_places, ℕ}
use Rattle.ele_files.proofs.files.usage.meet_log.Given as goal

-- what meets the rows that are left has met them all
abbrev pub invariant-loop-row : goal.invariant-loop-row
invariant-loop-row l = record {
  lives : AllByRecursion (λ (row : LogRow). LivesIn l.store row.cells) l.row-iterator;
  met : (id : ℕ) (keys : List (ℕ × ℕ)) → Meets id l.met.keys keys (log_places l.store l.row-iterator id) → Meets id l.fn.met.keys keys (log_places l.store l.file.log.rows id);
}
