-- The words and the lemmas of other crates that proofs here use, in one place.
pub use Rattle.ele_lists.proofs.Alls.{all-append, all-around, all-exchange, all-mid, later-around, later-exchange, later-weaker, later-without}
pub use Rattle.ele_lists.proofs.Cuts.{update_first-at}
pub use Rattle.ele_lists.proofs.Edits.{all-any, all-push, all-weaker, later-push}
pub use Rattle.ele_lists.proofs.Entries.{lookup-insert_entry, sorted-insert_entry}
pub use Rattle.ele_lists.proofs.Filters.{filter-all}
pub use Rattle.ele_lists.proofs.Lasts.{find_last}
pub use Rattle.ele_rows.proofs.Serials.{IsRising, IsSplitAt, after_head, all_from_each, all_keys_without, at_itself, found_key, is_last, later_at, none_last, not_true, not_yet, pushed, rest_rises, split_at}
pub use Rattle.ele_lists.proofs.Taken.{all-at}
pub use Rattle.ele_lists.proofs.Sums.{any-count as any_count, sum_by-around, sum_by-same}
pub use Rattle.ele_rows.specs.Index.{IsLastOf, has, is_entry}
pub use Rattle.ele_lists.specs.Last.{last_passing, passing}
pub use Rattle.ele_lists.specs.Lists.{AllLater, update_first}
pub use Rattle.ele_rows.specs.Serial.{is_placed, value_at}
pub use Rattle.ele_rows.specs.Tally.{counted}
pub use Rattle.ele_moment.specs.Last.{last_moment}
pub use Rattle.ele_names.specs.BirthIndex.{AreBelow, AreBirthsOf, has_birth, is_born, is_up_to, newest_of}
pub use Rattle.ele_names.specs.declared.birth_index.BirthIndex.{BirthIndex}
pub use Rattle.ele_names.specs.declared.birth_index.Born.{Born}
pub use Rattle.ele_names.specs.Chained.{IsLast, IsLastBelow, is_member, newest_in, live_in, AreChained, Gains, HasOlder, Keeps, Loses}
pub use Rattle.ele_names.specs.Counted.{AreCounted, AreNumbered, Leaves, live_at}
pub use Rattle.ele_names.specs.Kept.{IsKept, IsTable, is_born_by, rows_of}
pub use Rattle.ele_names.specs.Listed.{by_name, name_cmp}
pub use Rattle.ele_names.specs.Numbered.{entries_from}
pub use Rattle.ele_names.specs.Placed.{AreListed, AreIndexed, KeepsPlaces, is_of, live_of, name_eq, names_of, number_in, place_in}
pub use Rattle.ele_names.specs.Rows.{Follows, born_row, dies}
pub use Rattle.ele_names.specs.Stops.{StopsAtPlace}
pub use Rattle.ele_names.specs.Targets.{is_live_of, target_eq}
pub use Rattle.ele_names.specs.declared.row_lists.RowLists.{RowLists}
pub use Rattle.ele_names.specs.declared.live_names.Live.{Live}
pub use Rattle.ele_names.specs.declared.live_names.LiveNames.{LiveNames}
pub use Rattle.ele_names.specs.declared.names.Names.TheInside.{Inside}
pub use Rattle.ele_names.specs.declared.places.Places.{Places}
pub use Rattle.ele_names.specs.declared.table.Table.{Table}
pub use Rattle.ele_model.proofs.Walks.{parent_is, walk-on}
pub use Rattle.ele_model.specs.NameRows.{covers, is_live_directory, is_live_in, is_named, is_target_directory, last_dead, lives_past, target_at}
pub use Rattle.ele_model.specs.Walk.{comes_through, is_live_name, live_target, parent_now, walk_now, walk}
pub use Rattle.ele_model.specs.WalkAt.{walk_covering}
pub use Rattle.ele_model.specs.World.{is_live_name_of, is_target_file, root}
pub use Rattle.ele_model.specs.declared.refusal.Refusal.TheVariants.{NoEntry}
pub use Rattle.ele_model.specs.declared.rows.NameRow.{NameRow}
pub use Rattle.ele_model.specs.declared.rows.Target.TheVariants.{Directory, File}
pub use Rattle.ele_model.specs.declared.rows.Target.{Target}
pub use Rattle.indexmap.proofs.CallerLemmas.{insert_entry-new, keys-insert_entry-present, keys-with_value_at}
pub use Rattle.indexmap.proofs.MapLemmas.{some_index}
pub use Rattle.indexmap.specs.IndexMap.{set_value_at, with_value_at}
pub use Rattle.std.proofs.Common.{Bool, Err, IsSome, List, None, Ok, Option, Some, [], ap, append-nil, append_assoc, arith, cond, drop, eqb, false, filter, filter_map, find, inl, inr, is_none, is_some, length, length-append as length_append, map, nat_le, nat_lt, not, position, refl, rules, slice_get, slice_set, subst, suc, sym, take, tests, true, zero, ℕ, ◌&&◌, ◌++◌, ◌+◌, ◌-◌, ◌<◌, ◌==◌, ◌^◌, ◌∙◌, ◌∷◌, ◌≡◌, ◌≤◌, ◌⊎◌}
pub use Rattle.std.proofs.lemmas.Bool.Decides.{nat_tests}
pub use Rattle.std.proofs.lemmas.Bool.{cases_lt, false≢true, true≢false}
pub use Rattle.std.proofs.lemmas.Cmp.{nat_cmp_total, nat_list_cmp_total, on_total, then_total, tied_itself}
pub use Rattle.std.proofs.lemmas.Iterator.Adapters.{option_map_id}
pub use Rattle.std.proofs.lemmas.Iterator.Consumers.{YieldsList-from_filter_map, YieldsList-from_rest, nth_from_yields_List}
pub use Rattle.std.proofs.lemmas.Iterator.{YieldsList-from_map, YieldsList-from_slice, items_from_collect}
pub use Rattle.std.proofs.lemmas.List.Folds.{position_or_len_push}
pub use Rattle.std.proofs.lemmas.List.Sums.{prefix_len-le-length}
pub use Rattle.std.proofs.lemmas.List.{get_or_append_left, get_or_push, length-map, map-append, same_from_push}
pub use Rattle.std.proofs.lemmas.List.Elements.{filter-append}
pub use Rattle.std.proofs.lemmas.Map.Keys.{IsDistinct-head, IsDistinct-tail}
pub use Rattle.std.proofs.lemmas.Map.Lookups.{CmpEqualImpliesEq, exact_bytes, exact_pairs, exact_unsigned}
pub use Rattle.std.proofs.lemmas.Option.{slice_get-get_or as slice_got, slice_get_past, slice_get_read, slice_get_within}
pub use Rattle.std.proofs.lemmas.Result.{err_from_is_err_and}
pub use Rattle.std.proofs.lemmas.Slice.Eq.{bytes_eq-Decides, slice_eq-Decides}
pub use Rattle.std.specs.BTreeMap.{insert_entry, is_at}
pub use Rattle.std.specs.Bool.{nat_eq}
pub use Rattle.std.specs.Cmp.Lexicographic.{slice_cmp}
pub use Rattle.std.specs.Cmp.{IsTotalOrder, unsigned_tied}
pub use Rattle.std.specs.HashMap.{HashMap, get, keys}
unfoldable pub use Rattle.std.specs.List.Sorted.{IsStrictlySortedBy}
pub use Rattle.std.specs.List.{AllByRecursion, IsDistinct, count_by, list_any}
pub use Rattle.std.specs.Map.{keys_of, lookup, remove_entry, values_of}
pub use Rattle.std.specs.Option.{option_and_then, option_map, option_map_or, option_to_list}
pub use Rattle.std.specs.Ordering.{is_eq, nat_cmp, ordering_then}
pub use Rattle.std.specs.Prelude.{IfSome}
pub use Rattle.std.specs.Str.{bytes_eq}
pub use Rattle.std.specs.declared.alloc.AllocError.{AllocError}
pub use Rattle.std.specs.declared.cmp.Ordering.TheVariants.{Equal, Greater, Less}
pub use Rattle.std.specs.declared.cmp.Ordering.{Ordering}
