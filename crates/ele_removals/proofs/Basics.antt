-- The words and lemmas of std that proofs here use, in one place.
pub use Rattle.std.proofs.Common.{List, [], ap, append_assoc, arith, drop, refl, sym, ℕ, ◌++◌, ◌∷◌, ◌≡◌, ◌∙◌, Option, Some, None, false}
pub use Rattle.std.proofs.lemmas.Bool.Decides.{nat_tests}
pub use Rattle.std.specs.Fmt.{decimal}
pub use Rattle.std.specs.List.{flat_map}
pub use Rattle.std.specs.Prelude.{codes}
