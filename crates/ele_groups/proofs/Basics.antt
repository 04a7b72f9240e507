-- The words and lemmas of std and of lists that proofs here use, in one place.
pub use Rattle.ele_lists.proofs.Edits.{all-none, all-push, found_passes, later-push, later-remove_first, later-remove_first as later_remove_first, list_any-remove_first}
pub use Rattle.ele_lists.proofs.Places.{remove_first-none}
pub use Rattle.ele_lists.specs.Lists.{remove_first, update_first}
pub use Rattle.indexmap.specs.IndexMap.{insert_entry}
pub use Rattle.std.proofs.Common.{Bool, List, None, Option, Some, [], ap, arith, cond, false, get_or, inl, inr, is_some, length, not, refl, slice_get, subst, sym, take, true, ℕ, ◌&&◌, ◌++◌, ◌+◌, ◌-◌, ◌<◌, ◌==◌, ◌^◌, ◌||◌, ◌∙◌, ◌∷◌, ◌≡◌, ◌≤◌}
pub use Rattle.std.proofs.lemmas.Bool.{false≢true, true≢false}
pub use Rattle.std.proofs.lemmas.Bool.Decides.{nat_tests}
pub use Rattle.std.proofs.lemmas.List.{map-append, nil_from_length, take_all, take_more}
pub use Rattle.std.proofs.lemmas.List.Folds.{list_any-append}
pub use Rattle.std.proofs.lemmas.Map.Steps.{set_value_same}
pub use Rattle.std.proofs.lemmas.Slice.Eq.{bytes_eq-Decides}
pub use Rattle.std.specs.BTreeMap.{BTreeMap, get, is_at}
pub use Rattle.std.specs.List.{AllByRecursion, flat_map, list_any}
unfoldable pub use Rattle.std.specs.List.{IsDistinct}
pub use Rattle.std.specs.Map.{keys_of, lookup, remove_entry, set_value, values_of}
pub use Rattle.std.specs.Option.{MatchOption, option_map, option_map_or}
pub use Rattle.std.specs.Ordering.{is_gt, nat_cmp}
pub use Rattle.std.specs.Prelude.{IsSome, Err, Ok, OnErr, OnOk, Result, filter, find, max, min, nat_le, nat_lt, suc, zero}
pub use Rattle.std.specs.Str.{bytes_eq}
pub use Rattle.std.specs.declared.cmp.Ordering.TheVariants.{Less}
