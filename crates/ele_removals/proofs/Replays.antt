-- Histories without removals.
use Rattle.ele_removals.proofs.Basics.{List, [], ◌≡◌, ℕ, false}
use Rattle.std.specs.List.{list_any}
use Rattle.ele_audit.proofs.Numbered.{none_removed}
use Rattle.ele_audit.specs.Removals.{is_removal}
use Rattle.ele_removals.specs.Removals.{AreTold}
use Rattle.ele_removals.specs.declared.removal.Removal.{Removal}
use Rattle.ele_history.specs.Past.{Past}

pub no_rows : (past : Past) (rows : List Removal) → list_any (λ entry. is_removal entry.reply) past.entries ≡ false → rows ≡ [] → AreTold past rows
no_rows past rows none is = rw (is, none_removed past.base past.entries none) tt
