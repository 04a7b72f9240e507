-- The words and lemmas of std that proofs here use, in one place.
pub use Rattle.std.proofs.Common.{Bool, Ok, Result, Err, List, [], ap, append_assoc, arith, false, inl, inr, length, refl, reverse, subst, suc, sym, true, zero, ℕ, ◌++◌, ◌+◌, ◌*◌, ◌/◌, ◌%◌, ◌<◌, ◌∙◌, ◌∷◌, ◌≡◌, ◌≢◌, ◌≤◌, ◌⊎◌}
pub use Rattle.std.proofs.lemmas.List.{append_cancel_left, append_cancel_right, length-append, reverse-append, reverse-reverse}
pub use Rattle.std.proofs.lemmas.List.Elements.{Contains-append_left, Contains-push}
pub use Rattle.std.proofs.lemmas.Slice.Eq.{bytes_eq-Decides}
pub use Rattle.std.specs.List.{Contains}
pub use Rattle.std.specs.Str.{bytes_eq}
pub use Rattle.std.specs.Prelude.{codes}
