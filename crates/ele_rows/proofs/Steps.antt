-- What `grind` takes beside the facts at the goals of a function, for functions that need no more.
use Rattle.ele_rows.proofs.Words.{All-weaker, IsKeyInRange, all-got, chunk-far, chunk-near, chunk_read, entry_cmp, find_last-end, flat, flat-change_last, flat-remove_empty, flat-set_last, flat-taken, found_of_group, get_or-set_same, greatest, has, has_chunk, last-before_some, last-flat, last-slice_get, last_of, last_room-change, last_room-here, last_room-set, least, length-set, length-update_last, nat_tests, nil_from_length, of_group, recursion_from_All, room_needs, rows-here, set, slice_get-get_or, slice_get_read, take_all, update_last, update_last-set, with_items_is}

pub ruleset change_last_steps = (with_items_is, flat, update_last, length-update_last)

pub ruleset of_steps = (recursion_from_All, All-weaker, IsKeyInRange, entry_cmp, least, greatest, has, of_group, found_of_group)

pub ruleset change_end_steps = update_last-set

pub ruleset seam_change_last_steps = (nat_tests, slice_get-get_or, flat-change_last, all-got, last_room-change)

pub ruleset last_or_steps = (last-slice_get, last_of)

pub ruleset last_has_room_steps = (last-slice_get, last_of, nat_tests)

pub ruleset last_row_steps = (last_of, last-slice_get, last-flat)

pub ruleset push_last_steps = (room_needs, slice_get-get_or, last_room-here, flat-set_last)

pub ruleset row_before_steps = last-before_some

pub ruleset row_from_end_steps = (nat_tests, slice_get-get_or, slice_get_read, take_all, chunk-near, chunk-far)

pub ruleset take_out_steps = (has_chunk, chunk_read, slice_get_read, set, length-set, get_or-set_same, nil_from_length, nat_tests, flat, flat-remove_empty, flat-taken, rows-here, last_room-set)

pub ruleset last_before_steps = find_last-end
