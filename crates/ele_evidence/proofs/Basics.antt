-- The words and lemmas of std that proofs here use, in one place.
pub use Rattle.std.proofs.Common.{Bool, Err, List, None, Ok, Option, Result, Some, [], ap, append_assoc, arith, drop, false, get_or, inl, inr, length, map, refl, subst, suc, sym, take, true, zero, ℕ, ◌++◌, ◌+◌, ◌-◌, ◌<◌, ◌∙◌, ◌∷◌, ◌≡◌, ◌≢◌, ◌≤◌, ◌⊎◌}
pub use Rattle.std.proofs.lemmas.List.{append-nil, append_cancel_left, at_drop_all, drop_more, length-append}
pub use Rattle.std.specs.Fmt.{decimal}
pub use Rattle.std.specs.List.{AllByRecursion, AllZip, join_with_byte}
pub use Rattle.std.specs.Prelude.{codes}
