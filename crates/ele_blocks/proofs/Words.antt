-- The words that proofs here use, in one place.
pub use Rattle.ele_blocks.specs.Changes.{IsResized, IsRewritten, IsWritten}
pub use Rattle.ele_blocks.specs.Distinct.{AreOneToOne, IsIn, Named, blocks_of, names_from, names_of}
pub use Rattle.ele_blocks.specs.Hands.{AreThere, Hands}
pub use Rattle.ele_blocks.specs.LaidOver.{laid_over}
pub use Rattle.ele_blocks.specs.Layout.{Layout, cell_by, cell_of, ids_of, is_between, shown, slot_by, slots_of}
pub use Rattle.ele_blocks.specs.LivesIn.{AreBacked, LivesIn, backing, fills, is_whole, leaf_count}
pub use Rattle.ele_blocks.specs.Owes.{Moves, Owes, broken, named, tally}
pub use Rattle.ele_blocks.specs.Pieces.{AreSized, pieces, pieces_between}
pub use Rattle.ele_blocks.specs.Renewed.{IsLaid, IsRenewed, IsReplaced, parts}
pub use Rattle.ele_blocks.specs.Renews.{Renews}
pub use Rattle.ele_blocks.specs.Shared.{Adds, Covers, Owned, Sets, Trades, leaving, owners, owners_of, place_at, released, shared, times, value_at, value_of}
pub use Rattle.ele_blocks.specs.Stock.{IsEarlier, IsStocked, SameStock, Stays, StockLaws, Tagged, is_below, layouts_of, names_in, ShowsSame}
pub use Rattle.ele_blocks.specs.Store.{Store, bytes_at, leaf_at, owners_at, slots_in}
pub use Rattle.ele_blocks.specs.Shared.{Counted}
pub use Rattle.ele_blocks.specs.declared.slot.Slot.{Slot}
pub use Rattle.ele_content.specs.Content.{content_after_truncate, content_after_write, content_of, longest_content, meets, refits, slot_bytes, slot_count, writer_at}
pub use Rattle.ele_content.specs.Place.{Place, different, is_place}
pub use Rattle.ele_content.specs.declared.cell.Cell.{Cell}
pub use Rattle.slab.specs.Slab.{HasRoomFor, Slab, slab_len}
pub use Rattle.std.proofs.Common.{Bool, List, None, Option, Some, [], add-one, ap, append_assoc, arith, cond, drop, eqb, false, get_or, inl, inr, is_some, length, length-append, length-drop, length-take, ltb, map, max, min, refl, replicate, subst, suc, sym, take, true, vec_capacity, vec_len, zero, ℕ, ⊎_elim, ◌%◌, ◌&&◌, ◌*◌, ◌++◌, ◌+◌, ◌-◌, ◌/◌, ◌<◌, ◌^◌, ◌∙◌, ◌∷◌, ◌≡◌, ◌≢◌, ◌≤◌, ◌⊎◌}
pub use Rattle.std.proofs.Math.ListN.{set}
pub use Rattle.std.proofs.Math.Nat.{mul-suc}
pub use Rattle.std.proofs.Math.Seq.{drop-append-add, take-add, take-append-add, take-nil}
pub use Rattle.std.proofs.lemmas.Bool.{false≢true}
pub use Rattle.std.proofs.lemmas.Bool.Decides.{nat_tests}
pub use Rattle.std.proofs.lemmas.Grind.{flat_map-append, get_or_default_zero, same_number_lists}
pub use Rattle.std.proofs.lemmas.List.{append-nil, append_cancel_left, drop-append-le, drop-drop, drop-map, drop_all, drop_min, drop_more, get_or-drop, get_or-map, get_or-take, get_or_default, length-map, length-replicate, length-take-le, map-append, map-id, map_more, nil_from_length, set_split, take-append-drop, take-append-le, take-map, take-take, take_all, take_at, take_min, take_more, drop-take, get_or-append_right, get_or-replicate, get_or-set_other, get_or-set_same, get_or_append_left, get_or_past, length-set}
pub use Rattle.std.proofs.lemmas.List.Folds.{flat_map-map}
pub use Rattle.std.proofs.lemmas.List.FromFn.{fill_by_all}
pub use Rattle.std.proofs.lemmas.List.Sums.{sum_by-cons}
pub use Rattle.std.proofs.lemmas.Option.{slice_get-map, get_or_from_slice_get, slice_get-get_or, slice_get_past, slice_get_read, slice_get_within}
pub use Rattle.std.proofs.str.Laws.{order}
pub use Rattle.std.specs.List.{AllByRecursion, count_by, flat_map, list_all, list_any, range_with_len, sum_by}
pub use Rattle.std.specs.Option.{option_map}
pub use Rattle.std.specs.Prelude.{IfSome, slice_get, unwrap_or}
pub use Rattle.std.specs.Simd.{first_chunks}
pub use Rattle.std.specs.Vec.Iter.{into_iter_items, into_iter_len}
