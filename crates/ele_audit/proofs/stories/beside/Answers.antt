use Rattle.std.proofs.Common.{rules}
use Rattle.std.proofs.lemmas.List.Sorted.{IsNonDecreasingBy-from_sort_by_key}
use Rattle.ele_audit.proofs.Basics.{sym}
use Rattle.ele_audit.proofs.stories.beside.Goals as goal

pub returns-clause-versions : goal.returns-clause-versions
returns-clause-versions g c = record {
  held = c.in_ok-add_held.ensures.0;
  are = c.in_ok-add_held.ensures.1;
  same = rw (sym c.in_ok-add_held.ensures.2) c.sort_by_key.ensures.permutation;
  order = IsNonDecreasingBy-from_sort_by_key (λ row. row.number) _ c.in_ok-sort_by_key.ensures.sorted (λ a r q k. search rules);
}
