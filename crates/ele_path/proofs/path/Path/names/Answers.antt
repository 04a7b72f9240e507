use Rattle.std.proofs.Common.{List, ℕ, length, ◌≤◌, subst}
use Rattle.ele_path.proofs.Basics.{All}
use Rattle.ele_path.proofs.Words.{IsName}
use Rattle.ele_path.proofs.Texts.{path_is_names}
use Rattle.ele_path.proofs.path.Path.names.Goals as goal

pub invariant_of-result : goal.invariant_of-result
invariant_of-result c = rw c.as_slice.ensures (path_is_names _ c.self.invariant)

pub returns-clause-names : goal.returns-clause-names
returns-clause-names c = rw c.as_slice.ensures c.self.view_is

pub returns-clause-short : goal.returns-clause-short
returns-clause-short c = subst (λ (names : List (List ℕ)). length names ≤ 32) c.self.view_is c.self.invariant.is.short

pub returns-clause-named : goal.returns-clause-named
returns-clause-named c = subst (λ (names : List (List ℕ)). All IsName names) c.self.view_is c.self.invariant.is.named
