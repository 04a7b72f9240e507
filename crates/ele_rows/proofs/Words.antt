-- The same, and the lemmas on lists, for answers.
pub use Rattle.ele_lists.proofs.Alls.{all-got}
pub use Rattle.ele_rows.proofs.Backs.{chunk-far, chunk-near}
pub use Rattle.ele_lists.proofs.Basics.{All-weaker, IsKeyInRange, IsPartitionPoint-from_clause, IsPartitionedBy, Some, ap, arith, false, get_or-set_same, last_of, length, length-set, ltb, nat_tests, nil_from_length, not, option_copied, recursion_from_All, refl, reverse, rules, set, slice_get, slice_get-get_or, slice_get_read, sym, take, take_all, true, update_last, with_items_is, ◌-◌, ◌∙◌, ◌≡◌}
pub use Rattle.ele_rows.proofs.Basics.{entry_cmp, flat, has}
pub use Rattle.ele_lists.proofs.Cuts.{remove_first-unfound}
pub use Rattle.ele_lists.proofs.Edits.{all-weaker, not_found}
pub use Rattle.ele_lists.proofs.Ends.{find-parted, find_last-end, find_last-parted, last-slice_get, length-update_last, update_last-set}
pub use Rattle.ele_rows.proofs.Groups.{found_of_group, greatest, in_group, last_of_group, least, of_group}
pub use Rattle.ele_lists.proofs.Keys.{end-gap, end-missing, place-found, place-gap, place-missing, place-there, rises-parted}
pub use Rattle.ele_rows.proofs.Parted.{before_sinks}
pub use Rattle.ele_rows.proofs.Seams.{all-take, chunk_ends, chunk_read, chunk_rises, chunks_sink, dense_found, filled-set, first_behind, flat-change_last, flat-remove_empty, flat-set_last, flat-taken, has_chunk, here_sinks, key_found, key_missing, last-before_some, last-flat, last_room-change, last_room-here, last_room-set, place_split, room_needs, rows-here, seam_here, seam_past, sinks-parted}
