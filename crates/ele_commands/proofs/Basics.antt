-- The words and lemmas of std and of lists that proofs here use, in one place.
pub use Rattle.hex.specs.Hex.{encode_lower, lower_digits}
pub use Rattle.std.proofs.Common.{List, [], ap, append_assoc, arith, drop, get_or, length, map, refl, rules, sym, take, true, false, ℕ, ◌%◌, ◌++◌, ◌+◌, ◌/◌, ◌<◌, ◌==◌, ◌∙◌, ◌∷◌, ◌≡◌}
pub use Rattle.std.proofs.lemmas.Bool.Decides.{nat_tests}
pub use Rattle.std.proofs.lemmas.List.{drop_more, take-append-drop}
pub use Rattle.std.specs.List.{AllByRecursion, IsFirstAndRest, flat_map, join_with_byte}
