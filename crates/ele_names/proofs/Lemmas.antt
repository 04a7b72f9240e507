-- All that answers use, in one place.
pub use Rattle.ele_names.proofs.Words.{place_in, insert_entry-new, Keeps, bytes_eq-Decides, slice_eq-Decides, ◌-◌, take, AllocError, Directory, Follows, Gains, IfSome, IsKept, Leaves, List, LiveNames, NameRow, None, Ok, Option, Some, YieldsList-from_filter_map, YieldsList-from_map, YieldsList-from_rest, YieldsList-from_slice, [], ap, append-nil, append_assoc, arith, at_itself, born_row, by_name, comes_through, cond, drop, exact_bytes, false, filter, is_at, is_member, is_none, is_of, is_target_file, items_from_collect, keys_of, last_dead, later-push, length, length_append, list_any, live_at, live_of, map, name_cmp, name_eq, names_of, nat_cmp, nat_eq, nat_list_cmp_total, nat_tests, not, nth_from_yields_List, option_and_then, option_map_id, option_map_or, refl, root, rows_of, rules, slice_cmp, slice_get, slice_got, subst, suc, sym, target_at, target_eq, tests, true, value_at, values_of, walk, walk_covering, walk_now, ℕ, ◌++◌, ◌<◌, ◌==◌, ◌∙◌, ◌∷◌, ◌≡◌, keys-with_value_at}
pub use Rattle.ele_names.proofs.Added.{kept_over, kept_placed, kept_pushed, live_same, placed_back, rows_pushed, table_new}
pub use Rattle.ele_names.proofs.Apart.{named_and_live, named_dead, named_live, row_known, none_newest}
pub use Rattle.ele_names.proofs.Chained.{chained_entered, chained_left, chained_told, cut_kept, newest_known, none_behind, own_pushed, same_seen, set_seen}
pub use Rattle.ele_names.proofs.Indexed.{births_insert, births_remove}
pub use Rattle.ele_names.proofs.Live.{free_known, dead_one, leaves_without, live_one, target_with, counted_same, dead_left, numbered_same, numbered_with, numbered_without, others_live, own_name}
pub use Rattle.ele_names.proofs.Given.{listed_told, names_known, same_entries, popped, places_stay, listed_kept, listed_pushed, names_counted, names_pushed, same_live}
pub use Rattle.ele_names.proofs.Gone.{fewer, found, found_known, found_target, is_newest, its_file, its_name, kept_dead, kept_without, killed, last_gone, none_of_file, others_stay}
pub use Rattle.ele_names.proofs.Numbering.{at_last, from_values, none_past, without_last}
pub use Rattle.ele_names.proofs.Leads.{beside}
pub use Rattle.ele_names.proofs.Numbers.{has_number, missing, place_within, exact, named_place, keeps_pushed, pushed_place, value_set, valued}
pub use Rattle.ele_names.proofs.Told.{AreTold, dead_begun, dead_next, is_left, list_begun, list_first, list_next, list_second, list_smaller, list_stands, name_exact, name_total, parted, parted_back, told_all, told_one}
