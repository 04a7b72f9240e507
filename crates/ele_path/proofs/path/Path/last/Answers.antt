use Rattle.std.proofs.Common.{List, ℕ, ◌≡◌, ◌-◌, ◌<◌, ◌∙◌, None, length, refl, sym, subst, arith}
use Rattle.ele_path.proofs.Basics.{nat_tests, slice_get}
use Rattle.ele_path.specs.Text.{bytes_of}
use Rattle.ele_path.proofs.Words.{IsNameStart}
use Rattle.ele_path.proofs.Texts.{last_name, no_names, path_is_names}
use Rattle.ele_path.proofs.path.Path.last.Goals as goal

pub returns-then-is_empty : goal.returns-then-is_empty
returns-then-is_empty c =
    let none : length (bytes_of c.self.inside.text) ≡ 0 = rw (← c.as_slice-text.ensures) (grind (arith, nat_tests, sym c.is_empty.ensures ∙ c.if-is_empty.true)) in
    subst (λ (names : List (List ℕ)). None ≡ slice_get names (length names - 1)) (sym (no_names (bytes_of c.self.inside.text) none) ∙ c.self.view_is) refl

pub of-requires : goal.of-requires
of-requires c =
    let some : 0 < length (bytes_of c.self.inside.text) = rw (← c.as_slice-text.ensures) (grind (arith, nat_tests, sym c.is_empty.ensures ∙ c.if-is_empty.false)) in
    let start = subst (λ (text : List ℕ). IsNameStart text c.name_start.result) c.as_slice-text.ensures c.name_start.ensures in
    rw (c.split_at.ensures.back, c.as_slice-text.ensures) (last_name _ _ (path_is_names _ c.self.invariant) some start).is

pub returns : goal.returns
returns c =
    let some : 0 < length (bytes_of c.self.inside.text) = rw (← c.as_slice-text.ensures) (grind (arith, nat_tests, sym c.is_empty.ensures ∙ c.if-is_empty.false)) in
    let start = subst (λ (text : List ℕ). IsNameStart text c.name_start.result) c.as_slice-text.ensures c.name_start.ensures in
    rw (c.of.ensures, c.split_at.ensures.back, c.as_slice-text.ensures, ← c.self.view_is) (sym (last_name _ _ (path_is_names _ c.self.invariant) some start).last)
