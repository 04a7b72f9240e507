-- The words and lemmas of std that proofs here use, in one place.
pub use Rattle.std.proofs.Common.{Bor, Err, List, Ok, Option, Result, Bool, [], ap, append_assoc, arith, drop, get_or, length, map, refl, sym, take, true, false, ℕ, ◌++◌, ◌+◌, ◌<◌, ◌∙◌, ◌∷◌, ◌≡◌, ◌≤◌, ◌-◌, suc, subst}
pub use Rattle.std.proofs.KnownBytes.{Appends-kept, Appends-nil, Appends-trans}
pub use Rattle.std.proofs.lemmas.List.{append-nil, length-append, at_drop_all, drop_more, take-append-drop}
pub use Rattle.std.specs.Io.KnownBytes.{Appends, Keeps}
pub use Rattle.std.specs.List.{flat_map, join_with_byte}
pub use Rattle.std.proofs.Common.{is_err}
