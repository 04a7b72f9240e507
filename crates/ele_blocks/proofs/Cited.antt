-- All that answers use, in one place.
pub use Rattle.ele_blocks.proofs.Lemmas.{ap, append_assoc, arith, backing_put, chunk_next, content_of, drop, drop_all, drop_min, get_or, get_or_default_zero, HasRoomFor, IsRenewed, its_bytes, laid_more, laid_over, Layout, length, length-map, one_more, Owned, owners, pieces, puts_more, refl, release_leaves_backed, release_leaves_more, release_leaves_next, share_leaves_few, share_leaves_more, share_leaves_next, shown, slice_get_past, slot_bytes, slot_found, slot_named, slots-count, slots_in, slots_of, subst, sym, take, take-add, take_all, take_more, ◌*◌, ◌+◌, ◌-◌, ◌/◌, ◌∙◌, ◌≡◌}
pub use Rattle.ele_blocks.proofs.Distincts.{distinct_named}
pub use Rattle.ele_blocks.proofs.OneToOnes.{slot_owned}
pub use Rattle.ele_blocks.proofs.Renewals.{back_ready, front_ready, HaveCome, is_laid, IsStaged, renewed, was_backed}
pub use Rattle.ele_blocks.proofs.Splices.{patched}
pub use Rattle.ele_blocks.proofs.Changes.{cut_change, cut_long, cut_reach, grown, reach, resized_same, write_change, written_nothing}
pub use Rattle.ele_blocks.proofs.Runs.{inside, IsRun, leaves_new, now_room, part_backed, part_owned, placed, replaced, window_there}
pub use Rattle.ele_blocks.proofs.Counts.{counted-more, is_counted, leaves_with_last, none_leaves, owned_gone, owned_less, owned_more, owned_new, owners-counted, room_after, room_in, room_of, room_same, sets_gone, sets_less, sets_more, sets_new}
pub use Rattle.ele_blocks.specs.SharedInside.{counted}
-- the names that attributes give
pub use Rattle.ele_blocks.proofs.Lemmas.{length-append as length_append, length-content as length_content, length-drop as length_drop, length-take as length_take, length-take-le as length_take_le, slots-count as slots_count, take-add as take_add, take-nil as take_nil}
pub use Rattle.ele_blocks.proofs.Counts.{count-counted as count_counted, owners-counted as owners_counted, place-counted as place_counted}
pub use Rattle.ele_blocks.proofs.Lemmas.{nat_tests, one_more, slot_next}
