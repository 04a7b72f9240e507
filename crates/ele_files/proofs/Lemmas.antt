-- All that answers use, in one place.
pub use Rattle.ele_files.proofs.Words.{remove_first-position, remove_first-map, remove_first_unfound, all-update_first, later-update_first, set-first, map-all, find_position, sum-map, sum_by-map, all-weaker, sum_by-same, length-take-le, length-map, remove_first_none, append_assoc, length-split, find-filter, false≢true, AllByRecursion, Cell, Counts, File, IsFileKept, Held, List, LivesIn, LogRow, Meets, None, Ok, Precedes, Some, VersionRow, [], all_found, all_last, all_not_found, all_place, ap, append_nil, arith, bytes_in, cell_of, cells_by, cells_of_version, closed, content_of, different, draft_in, ended_by, file_row, filter, filter_none, find, flat_map, has_closed_by, held_of, is_after, is_id, is_version_of, has_number, list_any, is_place, last_passing, layouts_of, left_by, length, lives_at, log_bytes, log_places, map, nat_tests, next_of, on_ok_weaker, opening_of, option_and_then, option_map, option_map_or, places, places_from, refl, row_in, rows_in, set, shown, slice_get, slice_get_past, slots_of, stamps_in, info_of, stock_of, subst, sum_by_cons, sym, take, take_all, update_first_same, update_first_unfound, ℕ, ◌++◌, ◌+◌, ◌-◌, ◌∙◌, ◌∷◌, ◌≡◌}
pub use Rattle.ele_files.proofs.Appends.{same_next, found, appended_keeps, placed, added_keeps, added_shows, fresh_kept, IsGrown, not_lost, restored, saved}
pub use Rattle.ele_files.proofs.Tagged.{any_found, drafted, last-kept, newest_told, closing_none, closing_shown, newest_shown, last-map, at_shown, forgotten_none, list_shown, meant_shown, none_lived, none_shown, told_found}
pub use Rattle.ele_files.proofs.Closes.{given_lives, last_shown, shows_it, next_is, keeps_it, IsFinished, finished, given, its_map, leaves, not_missing, on_err, opening_shown}
pub use Rattle.ele_files.proofs.Copies.{taken-next, cell_next, draft_next, draft_there, met_all, places_from-push, bytes_few, shows, draft_places, meets_none, meets_then, met_next, none_count, own_bytes, own_count, own_few, own_places, places_next, usage_counts, places_shown}
pub use Rattle.ele_files.proofs.Drafts.{length_is, cut, wrote}
pub use Rattle.ele_files.proofs.Drops.{drops, rows_left, any_held, drops_at, unheld}
pub use Rattle.ele_files.proofs.Endings.{all_precede, can_end, last_row, no_end, ends, its_few, its_past, ready_past, waits}
pub use Rattle.ele_files.proofs.Exchanges.{gone, kind_told, lives, none_left, rows_after, next_stays, flat_map-same, governs}
pub use Rattle.ele_files.proofs.Stock.{IsSeen, draft_lives, LogLives, logs_live, row_lives}
pub use Rattle.ele_files.proofs.Openings.{opened, first_lives, maps_seen, opens}
pub use Rattle.ele_files.proofs.Rows.{any_draft, draft_found, version_of, version_none, its_id, file_row_found, next_found, no_file}
