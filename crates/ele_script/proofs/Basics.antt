-- The words and lemmas of std and of lists that proofs here use, in one place.
pub use Rattle.hex.specs.Hex.{decode_of}
pub use Rattle.std.proofs.Common.{Bool, Bor, Err, IfNone, List, None, Ok, Option, Result, Some, [], ap, append-nil, append_assoc, arith, drop, false, get_or, inl, inr, length, length-append, map, nat_lt, refl, rules, subst, suc, sym, take, tests, true, true≢false, zero, ℕ, ◌&&◌, ◌++◌, ◌+◌, ◌*◌, ◌^◌, ◌<◌, ◌==◌, ◌∙◌, ◌∷◌, ◌≡◌, ◌≢◌, ◌≤◌, ◌⊎◌}
pub use Rattle.std.proofs.Math.Decide.{dec_le, dec_lt, ℕ_discrete}
pub use Rattle.std.proofs.lemmas.Bool.{eqb-true, false≢true, lt-ltb, ltb-false}
pub use Rattle.std.proofs.lemmas.Bool.Decides.{nat_tests}
pub use Rattle.std.proofs.lemmas.Fmt.{decimal_injective, decimal_is_IsNumeral, digits_decimal}
pub use Rattle.std.proofs.lemmas.List.{drop_more, length-map, length-take-le, map-append, take-append-drop, take_all}
pub use Rattle.std.proofs.lemmas.List.Elements.{All-append, All-cons, All-head, All-nil, All-tail}
pub use Rattle.std.proofs.lemmas.List.Quantifiers.{position-Some}
pub use Rattle.std.proofs.lemmas.List.Splits.{length-slice_split, slice_split_at, slice_split_none}
pub use Rattle.std.proofs.lemmas.Option.{same_Some}
pub use Rattle.std.proofs.lemmas.Result.{err_from_is_err_and}
pub use Rattle.std.specs.Cmp.Lexicographic.{bytes_decides}
pub use Rattle.std.specs.Fmt.{decimal}
pub use Rattle.std.specs.List.{AllZip, join_with_byte, list_all, position, position_or_len, slice_split}
pub use Rattle.std.specs.Option.{ok_or, option_map}
pub use Rattle.std.specs.Prelude.{IfErr, IfOk, OnOk, codes}
pub use Rattle.std.specs.Str.Parse.{AllDigits, digits_value}
