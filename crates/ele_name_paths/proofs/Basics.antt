-- The words and lemmas of std that proofs here use, in one place.
pub use Rattle.std.proofs.Common.{List, [], ap, append_assoc, arith, drop, get_or, length, map, refl, sym, subst, rules, ℕ, ◌++◌, ◌<◌, ◌≤◌, ◌+◌, ◌-◌, ◌∷◌, ◌≡◌, ◌∙◌, Option, Some, None, Bool, true, false, reverse, zero, suc, find}
pub use Rattle.std.proofs.lemmas.Bool.Decides.{nat_tests}
pub use Rattle.std.proofs.lemmas.List.{append-nil, length-append, at_drop_all, drop_more, reverse-append}
pub use Rattle.std.specs.Fmt.{decimal}
pub use Rattle.std.specs.List.{flat_map, join_with_byte}
pub use Rattle.std.specs.Option.{option_and_then, option_map, option_or}
pub use Rattle.std.specs.Prelude.{codes, cond, if◌then◌else◌}
