-- The words and the lemmas of other crates that proofs here use, in one place.
pub use Rattle.ele_blocks.specs.Changes.{IsResized, IsWritten}
pub use Rattle.ele_blocks.specs.Distinct.{Named, names_from, names_of}
pub use Rattle.ele_blocks.specs.Layout.{Layout, cell_by, cell_of, shown, slots_of}
pub use Rattle.ele_blocks.specs.LivesIn.{LivesIn}
pub use Rattle.ele_blocks.specs.Owes.{Moves}
pub use Rattle.ele_blocks.specs.Renews.{Renews}
pub use Rattle.ele_blocks.specs.Stock.{IsEarlier, IsStocked, SameStock, ShowsSame, Stays, StockLaws, Tagged, empty_layout, layouts_of, names_in}
pub use Rattle.ele_blocks.specs.Store.{Store, bytes_at, owners_at}
pub use Rattle.ele_blocks.specs.declared.slot.Slot.{Slot}
pub use Rattle.ele_content.specs.Content.{content_of, longest_content}
pub use Rattle.ele_content.specs.Place.{Place, different, is_place}
pub use Rattle.ele_content.specs.declared.cell.Cell.{Cell}
pub use Rattle.ele_files.specs.Appending.{HasAppended, HasRows, IsGivenUp, IsRowPast, ended_by, ended_rows, next_row, opening_of}
pub use Rattle.ele_files.specs.Closing.{IsPast, changed_opening, finishing, last_draft, leaving, left_by, left_of, opening_by}
pub use Rattle.ele_files.specs.Held.{Became, GotFile, Held, cells_of_draft, cells_of_version, changed_at, current_ended, first_draft, is_bare, opened_by, rows_of, with_rows, without, without_file}
pub use Rattle.ele_files.specs.Inside.{IsDraftKept, IsFileKept, IsRowOf, Keeps, draft_in, draft_stock, file_row, file_stock, held_in, held_of, is_id, row_in, row_stock, rows_in, stock_of}
pub use Rattle.ele_files.specs.Meant.{row_living, row_meant, row_numbered, stamps_in, told_or_forgotten}
pub use Rattle.ele_files.specs.Met.{Counts, Meets, is_key, log_bytes, log_places}
pub use Rattle.ele_files.specs.declared.file.File.{File}
pub use Rattle.ele_inode_log.specs.Rows.{AreInOrder, CanEndAt, EndsInTime, HeldRows, Precedes, has_closed_by, is_after, is_before, has_number, is_other, last_of, lives_at, update_last}
pub use Rattle.ele_inode_log.specs.declared.row.VersionRow.{VersionRow as LogRow}
pub use Rattle.ele_lists.proofs.Alls.{all-append, all-flat_map, all-got, all-left, all-map, all-place as all_place, all-right, all-split, flat_map-all, later-map, later-weaker, map-all}
pub use Rattle.ele_lists.proofs.Backs.{back-map}
pub use Rattle.ele_lists.proofs.Buckets.{IsLocal, bucket_changes, filter-buckets, find-buckets, local-after, local-insert_before, local-remove_first, local-update_first}
pub use Rattle.ele_lists.proofs.Cuts.{find-at, find-cut, remove_first-at, remove_first-unfound as remove_first_unfound, update_first-at, update_first-same as update_first_same, update_first-unfound as update_first_unfound}
pub use Rattle.ele_lists.proofs.Edits.{all-any, all-both, all-found as all_found, all-insert_before, all-none, all-not_found as all_not_found, all-push, all-remove_first, all-update_first, all-weaker, find-remove_first, found_passes, later-push, later-remove_first, later-update_first, not_found}
pub use Rattle.ele_lists.proofs.Ends.{all-last as all_last}
pub use Rattle.ele_lists.proofs.Filters.{filter-all, filter-none as filter_none, find-filter}
pub use Rattle.ele_lists.proofs.Keys.{remove_first-key}
pub use Rattle.ele_lists.proofs.Places.{find-none, find-position as find_position, remove_first-none as remove_first_none, remove_first-position, set-first}
pub use Rattle.ele_lists.proofs.Shown.{any-map, find-map, is_some-copied, insert_before-map, remove_first-map, update_first-map}
pub use Rattle.ele_lists.proofs.Sums.{length-split, sum_by-around, sum_by-flat_map, sum_by-insert_before, sum_by-map, sum_by-remove_first, sum_by-same, sum_by-update_first, sum_by-update_same}
pub use Rattle.ele_lists.specs.Last.{last_passing}
pub use Rattle.ele_lists.specs.Lists.{AllLater, insert_before, remove_first, update_first}
pub use Rattle.ele_policy.specs.Policy.{kind_of}
pub use Rattle.ele_policy.specs.declared.policy.Policy.{Policy}
pub use Rattle.ele_sessions.specs.Changes.{Redrafts, Refits, RewritesDraft, has_length, rewritten_by}
pub use Rattle.ele_sessions.specs.Closes.{closed, closed_of, closing, closing_of, file_closing, left_drafts, left_handles}
pub use Rattle.ele_sessions.specs.Opening.{Opens, new_draft, with_draft}
pub use Rattle.ele_sessions.specs.Order.{Rises}
pub use Rattle.ele_sessions.specs.Orderly.{AreOrderly}
pub use Rattle.ele_sessions.specs.Sessions.{AllSessions, Draft, draft_of, is_draft, is_draft_after}
pub use Rattle.ele_path.specs.declared.tagged.Tag.{Tag}
pub use Rattle.ele_model.proofs.Created.{named_live}
pub use Rattle.ele_model.proofs.Files.{next_of-numbered_other, next_of-push}
pub use Rattle.ele_model.proofs.Newer.{enough_newer, newer_own, with_newer_own}
pub use Rattle.ele_model.specs.Change.{Append, EndDraft, OpenHandle, SetFilePolicy, ShutHandle, TruncateDraft, WriteDraft, after_change, after_changes, changed_by, ended_at, fitted_by, numbered_on, with_file, with_name}
pub use Rattle.ele_model.specs.FileUsage.{file_usage}
pub use Rattle.ele_model.specs.FileView.{is_version_of}
pub use Rattle.ele_model.specs.Neighbours.{is_newer_of, newer_held, newest_of, next_closing, with_newer}
pub use Rattle.ele_model.specs.NewPlaces.{is_among}
pub use Rattle.ele_model.specs.Tagged.{had_closed, had_life, held_or_forgotten, last_number, version_living, version_meant, version_numbered}
pub use Rattle.ele_model.specs.Step.{cells_by}
pub use Rattle.ele_model.specs.Told.{info_of}
pub use Rattle.ele_model.specs.Usage.{bytes_in, places, places_from}
pub use Rattle.ele_model.specs.World.{World, file_by, file_written, is_file, is_handle, is_live, is_open, is_version, is_version_after, is_writer, next_of, policy_of, reads_by, reads_version, writes}
pub use Rattle.ele_model.specs.declared.Usage.{Usage}
pub use Rattle.ele_model.specs.declared.refusal.Refusal.{Refusal}
pub use Rattle.ele_model.specs.declared.refusal.Refusal.TheVariants.{NoHandle, NoVersion}
pub use Rattle.ele_model.specs.declared.rows.DraftRow.{DraftRow}
pub use Rattle.ele_model.specs.declared.rows.FileRow.{FileRow}
pub use Rattle.ele_model.specs.declared.rows.HandleRow.{HandleRow}
pub use Rattle.ele_model.specs.declared.rows.Reads.{Reads}
pub use Rattle.ele_model.specs.declared.rows.VersionInfo.{VersionInfo}
pub use Rattle.ele_model.specs.declared.rows.VersionRow.{VersionRow}
pub use Rattle.std.proofs.Common.{Bool, Err, List, None, Ok, Option, Result, Some, [], ap, append-nil as append_nil, append_assoc, arith, cond, eqb, false, filter, find, flat_map, get_or, is_some, length, length-append, ltb, map, nat_lt, not, refl, reverse, subst, suc, sym, take, true, zero, ℕ, ◌&&◌, ◌*◌, ◌++◌, ◌+◌, ◌-◌, ◌<◌, ◌^◌, ◌||◌, ◌∙◌, ◌∷◌, ◌≡◌, ◌≢◌, ◌≤◌}
pub use Rattle.std.proofs.Math.ListN.{set}
pub use Rattle.std.proofs.lemmas.Bool.{false≢true}
pub use Rattle.std.proofs.lemmas.Bool.Decides.{nat_tests}
pub use Rattle.std.proofs.lemmas.Grind.{flat_map-append}
pub use Rattle.std.proofs.lemmas.List.{length-map, length-take-le, map-append, take_all, take_more}
pub use Rattle.std.proofs.lemmas.List.Concat.{flat_map_single}
pub use Rattle.std.proofs.lemmas.List.Folds.{flat_map-map, list_any-append}
pub use Rattle.std.proofs.lemmas.List.Sums.{sum-map, sum_by-append, sum_by-cons as sum_by_cons, sum_by_push}
pub use Rattle.std.proofs.lemmas.Option.{get_or_from_slice_get, slice_get_past, slice_get_within}
pub use Rattle.std.proofs.lemmas.Result.{on_ok_weaker}
pub use Rattle.std.specs.Borrow.{Bor}
pub use Rattle.std.specs.List.{AllByRecursion, list_any, position, remove, slice_get, sum_by}
pub use Rattle.std.specs.Option.{ok_or, option_and_then, option_copied, option_map, option_map_or, option_or}
pub use Rattle.std.specs.Prelude.{IfSome, IsSome, IsSomeAnd, IsTrue, MatchBool, unwrap_or, ◌↔◌}
pub use Rattle.std.specs.Result.{OnErr, OnOk, result_map_both, result_ok}
