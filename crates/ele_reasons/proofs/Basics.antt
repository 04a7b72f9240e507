-- The words and lemmas of std that proofs here use, in one place.
pub use Rattle.std.proofs.Common.{Bool, Bor, Err, List, None, Ok, Option, Result, Some, [], ap, append_assoc, arith, drop, false, get_or, inl, inr, length, length-append, map, nat_lt, refl, subst, suc, sym, take, true, true≢false, zero, ℕ, ◌++◌, ◌+◌, ◌<◌, ◌==◌, ◌∙◌, ◌∷◌, ◌≡◌, ◌≢◌, ◌≤◌}
pub use Rattle.std.proofs.lemmas.Bool.{eqb-true}
pub use Rattle.std.proofs.lemmas.Bool.Decides.{nat_tests}
pub use Rattle.std.proofs.lemmas.List.{drop_more, length-map, length-take-le, take-append-drop, take_all}
pub use Rattle.std.proofs.lemmas.List.Quantifiers.{position-Some}
pub use Rattle.std.specs.Cmp.Lexicographic.{bytes_decides}
pub use Rattle.std.specs.List.{list_all, position}
pub use Rattle.std.specs.Prelude.{IfOk}
