-- The words and lemmas of the crates below that proofs here use, in one place.
pub use Rattle.ele_content.specs.declared.cell.Cell.{Cell}
pub use Rattle.ele_state.specs.Home.{IsHome, IsPresent}
pub use Rattle.ele_state.specs.Inside.{IsSettled, IsSound, IsTracked, shown_of, world_of}
pub use Rattle.ele_state.specs.Shown.{Shown}
pub use Rattle.ele_state.specs.Source.{IsReady, IsRoomy, IsSource, Origin, appending, coming, origin, source_cells}
pub use Rattle.ele_state.specs.Queued.{AreChanges, IsQueued, IsInfoOf, former_moment, freed_moment, gained_moment, is_alone, is_freed, is_one, is_own, new_keys, moments_by, unread_under}
pub use Rattle.ele_state.specs.Tracked.{IsBooked, IsFew, IsOwed, IsOwedBy, blocks_of, held_world, of_file, one_version, only_blocks}
pub use Rattle.ele_state.specs.declared.rows.Rows.{Rows}
pub use Rattle.ele_due.specs.declared.key.Key.{Key}
pub use Rattle.ele_fates.specs.Alone.{few_enough}
pub use Rattle.ele_fates.specs.Change.{HasLeaving, change_of, cover_after, files_of, moments_of}
pub use Rattle.ele_fates.specs.Keys.{IsRekeyed, comes, goes, if_changed, is_entry}
pub use Rattle.ele_fates.specs.declared.change.GroupChange.{GroupChange}
pub use Rattle.ele_fates.specs.declared.change.GroupChange.TheVariants.{Dropped, Joined, Left, Marked, Unmarked}
pub use Rattle.ele_fates.specs.declared.keys.KeyChange.{KeyChange}
pub use Rattle.ele_files.specs.Closing.{IsPast, finishing, last_draft, leaving, left_by, left_of, opening_by}
pub use Rattle.ele_files.specs.Held.{Held, cells_of_draft, cells_of_version, changed_at, current_ended, opened_by, rows_after, rows_of, with_rows, without}
pub use Rattle.ele_lists.proofs.Sums.{any-count, count-update_first, sum_by-insert_before, sum_by-map, sum_by-remove_first, sum_by-update_same}
pub use Rattle.ele_lists.proofs.Places.{set-first as set_first}
pub use Rattle.ele_policy.specs.declared.policy.Kind.{Kind}
pub use Rattle.ele_policy.specs.declared.policy.Policy.{Policy}
pub use Rattle.ele_usage.specs.Book.{Book, sums_of}
pub use Rattle.ele_usage.specs.declared.usage.Usage.{Usage}
pub use Rattle.ele_model.proofs.Allowed.{default_is, takes}
pub use Rattle.ele_model.proofs.AppendMoments.{MayGrow, gaining_is, gaining_was, has_newer, held_before, may_grow, next_after, next_before, one_with_newer, others_after, touches}
pub use Rattle.ele_model.proofs.Basics.{AllByRecursion, AllLater, Bool, Err, IsSome, List, None, Ok, Option, Result, Some, YieldsList-from_filter_map, [], all-both, all-found, all-weaker, any-found, ap, append-nil, arith, bytes_eq-Decides, cond, drop, false, false≢true, filter, filter-all, filter-append, filter_map, find, found_passes, get_or, insert_before, is_some, items_from_collect, length, length-insert_before, length-remove_first, length-update_first, list_any, list_any-append, map, nat_le, nat_tests, not, not_found, option_and_then, option_map, option_map_or, refl, remove_first, remove_first-unfound, rules, slice_get, subst, sym, take, tests, true, unwrap_or, update_first, ℕ, ◌&&◌, ◌++◌, ◌+◌, ◌-◌, ◌<◌, ◌==◌, ◌^◌, ◌||◌, ◌∙◌, ◌∷◌, ◌≡◌, ◌≤◌, last_has}
pub use Rattle.ele_model.proofs.Created.{created, made_is}
pub use Rattle.ele_model.proofs.Dropped.{dropped}
pub use Rattle.ele_model.proofs.DueRows.{IsDueKey, first_is_due}
pub use Rattle.ele_model.proofs.GroupMoments.{MarksMove, drop_moves, is_covered, is_touched, leave_moves, mark_moves, member_moves, unmark_moves}
pub use Rattle.ele_model.proofs.Homes.{parent_home}
pub use Rattle.ele_model.proofs.Keeps.{all_keep, change_keeps, event_keeps}
pub use Rattle.ele_model.proofs.KeptNames.{apart_from_new, put_under_keeps}
pub use Rattle.ele_model.proofs.Meant.{is_at, is_meant, meant_held}
pub use Rattle.ele_model.proofs.NameMoments.{ended_in_order, ended_moment, moments_stay, no_moment, other_moments}
pub use Rattle.ele_model.proofs.Neighbours.{AreInOrder, in_order_of, least_newer, moment_is, none_asked, ripe_at_near}
pub use Rattle.ele_model.proofs.NoIdle.{LeavesRows, change_settles, no_idle_stays}
pub use Rattle.ele_model.proofs.OpenMoments.{open_still, opened_others, opened_own, read_moment, shut_others, shut_own}
pub use Rattle.ele_model.proofs.Readers.{has_row}
pub use Rattle.ele_model.proofs.OtherFiles.{drafts-removed, files-numbered, kinds-numbered, versions-finished}
pub use Rattle.ele_model.proofs.RipeAt.{is_due_is, ripe_at_is, scan_members}
pub use Rattle.ele_model.proofs.Formed.{in_parts, well_formed}
pub use Rattle.ele_model.proofs.StepKeeps.{fresh_is, step_keeps}
pub use Rattle.ele_model.proofs.Usages.{changes_removed, created_usage, only_at_is, usage_changes, usage_same, usages_fit, whole_bytes, whole_files, whole_versions, within_blocks, within_bytes, within_files, within_versions}
pub use Rattle.ele_model.proofs.Views.{placed_of, policy_is}
pub use Rattle.ele_model.proofs.Versions.{all_found}
pub use Rattle.ele_model.proofs.Walks.{file_live, file_of, file_there, last_names, live_target-push as name_stands, target_live}
pub use Rattle.ele_model.proofs.Words.{cover_of, cover_without, longer, ripe_past, AddMark, AddMember, AddName, Append, AreApart, ArePlaced, Bounded, ChangesOnly, Counted, Directories, Drafts, DropGroup, DropIdle, EndDraft, EndFileName, EndName, Files, Fits, Groups, Handles, IsEvent, IsFile, IsGroup, IsLawful, IsNameRow, IsThere, HasParts, IsWithin, MakeFile, MoveName, Names, OpenHandle, SetFilePolicy, RemoveMark, RemoveMember, Revive, ShutHandle, StartDraft, Take, Versions, World, after_change, after_changes, born_row, bytes_in, content_of, covers_moment, dies, due_key, ended_at, file_at, file_by, file_now, file_usage, file_written, first_due, forgotten, free_moment, fresh_world, had_life, has_draft, has_key, is_draft, is_file, is_file_of, is_held, is_idle, is_kind, is_live, is_live_name, is_live_name_of, is_moment, is_open, is_ripe_by, is_target_file, is_version, is_version_after, is_version_of, kind_of, live_target, lives_at, longest_content, members_of, moment_under, newest_of, next_closing, next_of, next_version, nothing, only_at, parent_now, plus, policy_of, reads_by, returning_name, ripe_at, step, target_at, usages, version_at, version_found, version_meant, file_view, walk_meant, walk_now, with_end, with_version, without_file, without_name, Change, Homes, IsHoused, IsDirectoryThere, is_named, last_dead, SetDirectoryDefault, MakeDirectory, Time, WriteDraft, TruncateDraft, MakeGroup}
pub use Rattle.ele_model.proofs.Words.{rule_in}
pub use Rattle.ele_policy.specs.RipeCase.{case_of, ripe_case}
pub use Rattle.ele_policy.specs.declared.rule.Case.{Case}
pub use Rattle.ele_policy.specs.declared.rule.Rule.{Rule}
pub use Rattle.ele_model.specs.Neighbours.{case_in, case_moment, newer_held, rule_of, with_newer}
pub use Rattle.ele_model.specs.May.{May, MayAppend, MayHaveMore, MayName, MayRevive}
pub use Rattle.ele_model.specs.Change.{version_cells}
pub use Rattle.ele_model.specs.GroupRows.{has_member}
pub use Rattle.ele_model.specs.NoIdleStays.{HasNoIdle}
pub use Rattle.ele_model.specs.Step.{cells_by, has_other_writer, versions_made}
pub use Rattle.ele_model.specs.Told.{info_of}
pub use Rattle.ele_model.specs.Usage.{usage_of}
pub use Rattle.ele_model.specs.declared.event.Event.{Event}
pub use Rattle.ele_model.specs.declared.event.Event.TheVariants.{Abandon, CleanOne, Close}
pub use Rattle.ele_model.specs.declared.refusal.Refusal.{Refusal}
pub use Rattle.ele_model.specs.declared.reply.Reply.{Reply}
pub use Rattle.ele_model.specs.declared.reply.Reply.TheVariants.{Closed, Done}
pub use Rattle.ele_model.specs.declared.rows.DraftRow.{DraftRow}
pub use Rattle.ele_model.specs.declared.rows.FileRow.{FileRow}
pub use Rattle.ele_model.specs.declared.rows.GroupRow.{GroupRow}
pub use Rattle.ele_model.specs.declared.rows.MarkRow.{MarkRow}
pub use Rattle.ele_model.specs.declared.cover.Cover.{Cover}
pub use Rattle.ele_model.specs.declared.rows.NameRow.{NameRow}
pub use Rattle.ele_model.specs.declared.rows.Reads.TheVariants.{Draft, Version}
pub use Rattle.ele_model.specs.declared.rows.VersionInfo.{VersionInfo}
pub use Rattle.ele_model.specs.declared.rows.Target.{Target}
pub use Rattle.ele_model.specs.declared.rows.Target.TheVariants.{Directory, File}
pub use Rattle.ele_model.specs.declared.rows.VersionRow.{VersionRow}
pub use Rattle.std.proofs.Math.Bool.{and-false, or-false}
pub use Rattle.std.specs.List.{count_by, sum_by}
pub use Rattle.ele_moment.specs.declared.memory.NoMemory.{NoMemory}
pub use Rattle.std.specs.Prelude.{IfOk, IfSome, OnErr, OnOk}
pub use Rattle.std.specs.Result.{result_map_both}
