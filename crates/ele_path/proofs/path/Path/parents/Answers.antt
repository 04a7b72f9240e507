use Rattle.std.proofs.Common.{List, ℕ, subst}
use Rattle.ele_path.proofs.Words.{IsNameStart}
use Rattle.ele_path.proofs.Texts.{parents_of, path_is_names}
use Rattle.ele_path.proofs.path.Path.parents.Goals as goal

pub invariant_of-result : goal.invariant_of-result
invariant_of-result c =
    let start = subst (λ (text : List ℕ). IsNameStart text c.name_start.result) c.as_slice-text.ensures c.name_start.ensures in
    rw (c.split_at.ensures.front, c.saturating_sub.ensures, c.as_slice-text.ensures) (parents_of _ _ (path_is_names _ c.self.invariant) start).0

pub returns : goal.returns
returns c =
    let start = subst (λ (text : List ℕ). IsNameStart text c.name_start.result) c.as_slice-text.ensures c.name_start.ensures in
    rw (c.split_at.ensures.front, c.saturating_sub.ensures, c.as_slice-text.ensures, ← c.self.view_is) (parents_of _ _ (path_is_names _ c.self.invariant) start).1
