-- The words and lemmas of std, and the words of lists, that proofs here use, in one place.
pub use Rattle.ele_lists.specs.Ends.{last_of, update_last}
pub use Rattle.ele_lists.specs.Keys.{Rises, stands_by, is_behind}
pub use Rattle.ele_lists.specs.Last.{last_passing, passing}
pub use Rattle.ele_lists.specs.Lists.{AllLater, insert_before, remove_first, update_first}
pub use Rattle.std.proofs.Common.{Bool, Bor, Equal, Global, Greater, IsTrue, Less, List, None, Option, Ordering, Some, Vec, [], ap, append-nil, append_assoc, arith, cond, count_by, drop, eqb, false, filter, filter_map, find, flat_map, get_or, get_or-set_same, inl, inr, insert, is_eq, is_lt, is_some, leb, length, length-set, length-take, ltb, map, nat_cmp, nat_lt, not, option_and_then, option_copied, option_map, position, refl, remove, reverse, rules, set, slice_get, suc, sum_by, sym, take, take-append-drop, take_all, true, unwrap_or, zero, ℕ, ◌&&◌, ◌++◌, ◌+◌, ◌-◌, ◌<◌, ◌==◌, ◌^◌, ◌||◌, ◌∙◌, ◌∷◌, ◌≡◌, ◌≢◌, ◌≤◌, ◌⊎◌}
pub use Rattle.std.proofs.lemmas.Bool.{false≢true}
pub use Rattle.std.proofs.lemmas.Bool.Decides.{nat_tests}
pub use Rattle.std.proofs.lemmas.Cmp.{eq_by_cmp_equiv, nat_cmp_total, on_total, then_total, tied_itself}
pub use Rattle.std.proofs.lemmas.List.{drop_all, length-append, length-map, length-reverse, nil_from_length, reverse-append, with_items_is}
pub use Rattle.std.proofs.lemmas.List.Edits.{insert_end}
pub use Rattle.std.proofs.lemmas.List.Elements.{All-weaker, filter-append, recursion_from_All}
pub use Rattle.std.proofs.lemmas.List.Folds.{find-append}
pub use Rattle.std.proofs.lemmas.List.Quantifiers.{position-Some}
pub use Rattle.std.proofs.lemmas.List.Sorted.{IsPartitionPoint-from_clause, IsPartitionedBy-ltb}
pub use Rattle.std.proofs.lemmas.List.Sums.{count_by-le-length, position_or_len_is, sum_by-append, sum_by-cons}
pub use Rattle.std.proofs.lemmas.Map.{lookup-none}
pub use Rattle.std.proofs.lemmas.Map.Entries.{none_below_head, none_past_head}
pub use Rattle.std.proofs.lemmas.Map.Keys.{IsDistinct-from_sorted}
pub use Rattle.std.proofs.lemmas.Map.Lookups.{CmpEqualImpliesEq, exact_unsigned}
pub use Rattle.std.proofs.lemmas.Map.Steps.{list_any_congr}
pub use Rattle.std.proofs.lemmas.Map.Views.{any-filter_same, range_contains-from_IsInRange}
pub use Rattle.std.proofs.lemmas.Option.{slice_get-get_or, slice_get_past, slice_get_read, slice_get_within}
pub use Rattle.std.specs.BTreeMap.{insert_entry, is_at}
pub use Rattle.std.specs.BTreeMap.Range.{IsLeBy, range_contains}
pub use Rattle.std.specs.BTreeSet.{IsKeyInRange, keys_between}
pub use Rattle.std.specs.Cmp.{IsTotalOrder}
pub use Rattle.std.specs.List.{AllByRecursion, AllWithin, cons_option, list_any}
pub use Rattle.std.specs.List.Sorted.{IsNonDecreasingBy, IsPartitionPoint, IsPartitionedBy}
pub use Rattle.std.specs.Map.{keys_of, lookup, remove_entry, values_of}
pub use Rattle.std.specs.Option.{option_map_or, option_or}
pub use Rattle.std.specs.Prelude.{IfSome}
pub use Rattle.std.specs.Ordering.{ordering_then}
pub use Rattle.std.specs.declared.ops.Bound.{Bound}
pub use Rattle.std.specs.declared.ops.Bound.TheVariants.{Included}
