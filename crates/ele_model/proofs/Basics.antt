-- The words and lemmas of std and of lists that proofs here use, in one place.
pub use Rattle.ele_lists.proofs.Alls.{all-append, all-around, all-filter, all-map, all-right, all-split, filter-passes, later-around, later-filter, later-map, later-right, later-weaker}
pub use Rattle.ele_lists.proofs.Cuts.{IsCut, find-cut, insert_before-skip, find-without, remove_first-at, remove_first-unfound, update_first-at, update_first-unfound}
pub use Rattle.ele_lists.proofs.Edits.{all-any, all-both, all-found, all-insert_before, all-none, all-not_found, all-push, all-remove_first, all-update_first, all-weaker, find-insert_before, find-remove_first, found_passes, later-insert_before, later-push, later-remove_first, later-update_first, length-insert_before, length-remove_first, length-remove_first-le, length-update_first, list_any-insert_before, list_any-remove_first, list_any-update_first, not_found}
pub use Rattle.ele_lists.proofs.Entries.{all-insert_entry, entries_same, filter_map-map, lookup-insert_entry, sorted-filter_entries, sorted-insert_entry}
pub use Rattle.ele_lists.proofs.Filters.{any-filtered, filter-all, filter-both, filter-insert_before, filter-none, filter-remove_first, filter-same, filter-same_all, filter-swap, filter-update_first, find-filter_both, list_any-filter}
pub use Rattle.ele_lists.proofs.Found.{any-found, find-inserted, find-update_none, find-update_other, later-update_found, list_any-update_fails, list_any-update_found}
pub use Rattle.ele_lists.proofs.Keys.{remove_first-key}
pub use Rattle.ele_lists.proofs.Lasts.{last_has}
pub use Rattle.ele_lists.proofs.Sums.{length-filter_removed, length-split, sum_by-found, sum_by-update_first}
pub use Rattle.ele_lists.specs.Last.{last_passing, passing}
pub use Rattle.ele_lists.specs.Lists.{AllLater, insert_before, remove_first, update_first}
pub use Rattle.std.proofs.Common.{Bool, Err, IfSome, List, None, Ok, Option, Result, Some, [], add-one, ap, append_assoc, arith, cond, drop, eqb, false, filter, find, fold, get_or, inl, inr, is_none, length, length-append, map, nat_lt, max, not, refl, rules, slice_get, subst, suc, sym, take, tests, true, zero, ℕ, ◌&&◌, ◌*◌, ◌++◌, ◌+◌, ◌-◌, ◌<◌, ◌==◌, ◌^◌, ◌||◌, ◌∙◌, ◌∷◌, ◌≡◌, ◌≢◌, ◌≤◌, ◌⊎◌}
pub use Rattle.std.proofs.Math.Bool.{and-false}
pub use Rattle.std.proofs.lemmas.Bool.{cases_lt, false≢true, not-true, true≢false}
pub use Rattle.std.proofs.lemmas.Bool.Decides.{nat_tests}
pub use Rattle.std.proofs.lemmas.Cmp.{on_total, then_total}
pub use Rattle.std.proofs.lemmas.Grind.{flat_map-append, fold-append}
pub use Rattle.std.proofs.lemmas.Iterator.{items_from_collect}
pub use Rattle.std.proofs.lemmas.Iterator.Consumers.{YieldsList-from_filter_map, YieldsList-from_rest}
pub use Rattle.std.proofs.lemmas.List.{append-nil, drop_more, nil_from_length, length-drop, length-map, take_all, take_more}
pub use Rattle.std.proofs.lemmas.List.Concat.{flat_map-cons}
pub use Rattle.std.proofs.lemmas.List.Elements.{filter-append, filter_map-append}
pub use Rattle.std.proofs.lemmas.List.Folds.{find-append, list_any-append}
pub use Rattle.std.proofs.lemmas.List.Sums.{length-filter, sum_by-cons}
pub use Rattle.std.proofs.lemmas.Map.Entries.{lookup-filter-values, option_filter}
pub use Rattle.std.proofs.lemmas.Map.Keys.{IsDistinct-from_sorted}
pub use Rattle.std.proofs.lemmas.Map.Lookups.{CmpEqualImpliesEq, exact_bytes, exact_pairs, exact_unsigned}
pub use Rattle.std.proofs.lemmas.Map.Made.{keys_of-map_values, lookup-map_values}
pub use Rattle.std.proofs.lemmas.Map.Text.{is_eq-slice_cmp}
pub use Rattle.std.proofs.lemmas.Option.{IfSome_then, slice_get-map, slice_get_within}
pub use Rattle.std.proofs.lemmas.Result.{IfOk-weaker}
pub use Rattle.std.proofs.lemmas.Slice.Eq.{bytes_eq-Decides}
pub use Rattle.std.specs.BTreeMap.{insert_entry, is_at}
pub use Rattle.std.specs.BTreeSet.{insert_key}
pub use Rattle.std.specs.Cmp.{IsTotalOrder, eq_by_cmp_equiv, nat_cmp_total, unsigned_tied}
pub use Rattle.std.specs.Cmp.Lexicographic.{nat_list_cmp_total, slice_cmp}
pub use Rattle.std.specs.List.{AllByRecursion, cons_option, filter_map, flat_map, list_any}
pub use Rattle.std.specs.Map.{keys_of, lookup, values_of}
pub use Rattle.std.specs.Option.{option_map, option_map_or, option_or}
pub use Rattle.std.specs.Ordering.{is_eq, nat_cmp, ordering_then}
pub use Rattle.std.specs.Prelude.{IsSome, is_some, nat_le, option_and_then, unwrap_or}
pub use Rattle.std.specs.Str.{bytes_eq}
pub use Rattle.std.specs.declared.alloc.AllocError.{AllocError}
pub use Rattle.std.specs.declared.cmp.Ordering.{Ordering}
pub use Rattle.std.specs.declared.cmp.Ordering.TheVariants.{Equal, Greater, Less}
