-- The words, and the lemmas that most proofs here use, in one place.
pub use Rattle.ele_blocks.proofs.Words.{slice_get-map, [], Adds, AllByRecursion, ap, append-nil, append_assoc, AreBacked, AreOneToOne, AreSized, AreThere, arith, backing, blocks_of, Bool, broken, bytes_at, Cell, cell_by, cell_of, cond, content_after_truncate, content_after_write, content_of, count_by, Counted, Covers, different, drop, drop-append-le, drop-drop, drop_all, drop_min, eqb, false, false≢true, fill_by_all, first_chunks, flat_map, flat_map-append, flat_map-map, get_or, get_or-map, get_or-set_other, get_or-set_same, get_or_default_zero, get_or_past, Hands, HasRoomFor, ids_of, inl, inr, into_iter_items, into_iter_len, is_below, is_between, is_place, is_some, is_whole, IsEarlier, IsIn, IsLaid, IsRenewed, IsReplaced, IsResized, IsRewritten, IsStocked, IsWritten, laid_over, Layout, layouts_of, leaf_at, leaf_count, length, length-append, length-drop, length-map, length-replicate, length-set, length-take, length-take-le, List, list_all, list_any, LivesIn, longest_content, ltb, map, map-append, map-id, max, meets, min, Moves, Named, named, names_from, names_in, names_of, nat_tests, nil_from_length, None, Option, Owes, Owned, owners, owners_at, parts, pieces, pieces_between, Place, place_at, range_with_len, refits, refl, Renews, SameStock, set, shown, ShowsSame, slice_get, slice_get-get_or, slice_get_past, slice_get_within, Slot, slot_by, slot_bytes, slot_count, slots_in, slots_of, Some, Stays, StockLaws, Store, subst, suc, sum_by, sum_by-cons, sym, Tagged, take, take-add, take-append-drop, take-append-le, take-map, take-nil, take-take, take_all, take_at, take_more, tally, times, Trades, true, unwrap_or, value_at, vec_capacity, vec_len, writer_at, zero, ℕ, ⊎_elim, ◌&&◌, ◌*◌, ◌++◌, ◌+◌, ◌-◌, ◌/◌, ◌<◌, ◌^◌, ◌∙◌, ◌∷◌, ◌≡◌, ◌≤◌, ◌⊎◌}
pub use Rattle.ele_blocks.proofs.Sized.{chunk_next, chunks_joined, flat-at, flat-drop, flat-laid, flat-take, length-chunks, sized-append, sized-chunks, sized-count, sized-drop, sized-is, sized-laid, sized-length, sized-map, sized-take}
pub use Rattle.ele_blocks.proofs.Trades.{one_more, puts_more, PutsSoFar, release_more, release_next, share_few, share_more, share_next, slot_named, slot_next, times-append, times-ids, times-le-length, times-split, values_stay}
pub use Rattle.ele_blocks.proofs.Backing.{backing_least, backing_put, backing_some, slots_backed, slots_least}
pub use Rattle.ele_blocks.proofs.Hands.{backed_there, cells_each, hands_then, hands_with, leaf_covered, leaf_goes, leaf_stays, leaf_there, moved_copy, moved_one, release_leaves_backed, release_leaves_more, release_leaves_next, share_leaf, share_leaves_few, share_leaves_more, share_leaves_next, stay_in, StayIn, whole_same}
pub use Rattle.ele_blocks.proofs.Sizes.{bytes_of, is_whole_by, its_bytes, leaf_is, leaf_owned, leaf_read, leaves-count, length-content, no_cell, slot_found, slots-count, whole_is}
pub use Rattle.ele_blocks.proofs.LaidOvers.{laid_at, laid_more, laid_over-map, length-laid_over, slice_get-take}
pub use Rattle.ele_blocks.proofs.Splices.{length-spliced, piece_more, pieces_are, pieces_taken, spliced_part}
