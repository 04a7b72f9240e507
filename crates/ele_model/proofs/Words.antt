-- The world's words that proofs here use, in one place.
pub use Rattle.ele_content.proofs.Contents.{slots_few, truncated_fills, truncated_short, written_fills, written_short}
pub use Rattle.ele_content.specs.Content.{content_of, longest_content, writer_at}
pub use Rattle.ele_content.specs.Place.{Place, different, is_place}
pub use Rattle.ele_content.specs.declared.cell.Cell.{Cell}
pub use Rattle.ele_due.specs.HasKey.{has_key}
pub use Rattle.ele_due.specs.Key.{is_key}
pub use Rattle.ele_due.specs.Queue.{is_ripe_by}
pub use Rattle.ele_due.specs.declared.key.Key.{Key}
pub use Rattle.ele_moment.specs.Last.{last_moment}
pub use Rattle.ele_policy.specs.Rule.{floor_of, meets_floor}
pub use Rattle.ele_policy.specs.RipeCase.{rule_in}
pub use Rattle.ele_policy.specs.Lawful.{IsLawful, PoliciesAreLawful}
pub use Rattle.ele_policy.specs.Policy.{IsPolicy, is_kind, kind_of}
pub use Rattle.ele_policy.specs.Ripe.{Beside, candidates, earliest_of, is_due_by, lets_go}
pub use Rattle.ele_policy.specs.RipeCase.{case_beside, case_of, ripe_case}
pub use Rattle.ele_policy.specs.declared.policy.Kind.{Kind}
pub use Rattle.ele_policy.specs.declared.policy.Policy.{Policy}
pub use Rattle.ele_policy.specs.declared.policy.Policy.TheVariants.{All, One, Safe}
pub use Rattle.ele_policy.specs.declared.rule.Case.{Case}
pub use Rattle.ele_policy.specs.declared.rule.Rule.{Rule}
pub use Rattle.ele_path.specs.declared.tagged.Tag.{Tag}
pub use Rattle.ele_path.specs.declared.tagged.TaggedPath.{TaggedPath}
pub use Rattle.ele_usage.specs.OnlyAt.{only_at}
pub use Rattle.ele_usage.specs.Sums.{Fits}
pub use Rattle.ele_usage.specs.Adding.{IsWithin, nothing, plus}
pub use Rattle.ele_usage.specs.declared.usage.Usage.{Usage}
pub use Rattle.ele_model.specs.Bounds.{AreBounds, Bounds}
pub use Rattle.ele_model.specs.Change.{AddMark, AddMember, AddName, Append, Change, DropGroup, DropIdle, EndDraft, EndFileName, EndName, SetDirectoryDefault, MakeDirectory, MakeFile, MakeGroup, MoveName, OpenHandle, SetFilePolicy, RemoveMark, RemoveMember, Revive, ShutHandle, StartDraft, Take, Time, TruncateDraft, WriteDraft, after_change, after_changes, changed_by, current_cells, ended_at, fitted_by, governed_by, is_idle, new_draft, next_version, numbered_on, set_policy, version_cells, with_end, with_file, with_name, with_version, without_file, without_name}
pub use Rattle.ele_model.specs.CleanKeepsKeys.{CleanKeepsKeys, TakesOneKey}
pub use Rattle.ele_model.specs.Due.{is_due_at, kept_rows, ripe_of}
pub use Rattle.ele_model.specs.RipeRows.{ripe_at}
pub use Rattle.ele_model.specs.FileUsage.{file_usage}
pub use Rattle.ele_model.specs.FileView.{FileView, beside, closings, due_in, ends_over, is_newer, is_protected, is_version_of, numbers_read, ripe_in, file_view}
pub use Rattle.ele_model.specs.RipeRows.{is_numbered, ripe_numbered}
pub use Rattle.ele_model.specs.GroupRows.{adds, covers_moment, forgets, forgotten, group_named, has_covering, has_group, has_mark, has_member, is_group, is_in_force, is_mark, is_marked, is_marked_at, is_member, keeps_at, mark_at, marks, marks_over, new_group, removes, unmarks, with_mark, with_member, without_group, without_mark, without_member}
pub use Rattle.ele_model.specs.Cover.{cover_by, cover_of, cover_until, lasts, longer, ripe_past}
pub use Rattle.ele_model.specs.GroupsAsked.{cover_with, cover_without, is_left_out, marks_left, marks_of, members_of}
pub use Rattle.ele_model.specs.NameRows.{born_row, covers, dies, is_live_directory, is_live_in, is_name_of_directory, is_named, is_target_directory, last_dead, target_at}
pub use Rattle.ele_model.specs.Neighbours.{case_in, case_moment, free_moment, is_moment, is_newer_of, moment_under, newer_held, newest_of, next_closing, rule_of, with_newer}
pub use Rattle.ele_model.specs.NewPlaces.{different_of, has_slot, is_among, new_places}
pub use Rattle.ele_model.specs.NoIdleStays.{HasNoIdle, NoIdleStays}
pub use Rattle.ele_model.specs.NothingChanges.{asks}
pub use Rattle.ele_model.specs.Pass.{HasRemoved, IsCleaned, IsFinished, IsPass, after_cleans}
pub use Rattle.ele_model.specs.Plan.{IfFound, Make, Need, Plan, Tell, Unless, When, outcome, refused}
pub use Rattle.ele_model.specs.RemovalOrder.{LeavesDue, RemovalOrder}
pub use Rattle.ele_model.specs.Restorable.{last_target, may_return, name_cmp, nameless, newest_rows, returning, returning_name}
pub use Rattle.ele_model.specs.RipeMoments.{DueFromRipe, IsDueFromRipe, RipeIsAnswer, RipeIsAnswered}
pub use Rattle.ele_model.specs.Run.{IsEvent, run_of}
pub use Rattle.ele_model.specs.Scan.{due_key, first_due, in_order, key_cmp, key_of}
pub use Rattle.ele_model.specs.Step.{cells_by, clean_step, draft_read, file_standing, plan, row_then, save_new_plan, save_plan, step, version_then}
pub use Rattle.ele_model.specs.Tagged.{had_closed, had_life, held_or_forgotten, last_number, lives_at, version_at, version_found, version_living, version_meant, version_numbered, walk_meant}
pub use Rattle.ele_model.specs.Told.{stood_in}
pub use Rattle.ele_model.specs.Usage.{bytes_in, is_file_of, is_of, places, places_from, usages}
pub use Rattle.ele_model.specs.Walk.{comes_through, directory_in, directory_now, file_at, file_now, is_live_name, live_target, parent_now, stands_in, walk, walk_now}
pub use Rattle.ele_model.specs.WalkAt.{walk_at}
pub use Rattle.ele_model.specs.Parts.{Bounded, Counted, Current, Directories, Drafts, Ended, Files, Groups, Handles, HasParts, Holds, Homes, Law, Names, Now, Part, PolicyLaw, Readers, Tree, Versions}
pub use Rattle.ele_model.specs.WellFormed.{AreApart, AreCounted, AreGroups, AreHeldRead, AreHoused, AreNames, AreOthers, ArePlaced, AreVersions, AreWrittenBy, HaveCurrent, HaveEnded, IsContent, IsDirectoryThere, IsDraft, IsFile, IsGroup, IsHandle, IsHeldRead, IsHoused, IsNameRow, IsOfLive, IsReadable, IsThere, IsVersion, IsWellFormed, has_directory, is_current, is_reached}
pub use Rattle.ele_model.specs.Whole.{ChangesOnly, part, whole}
pub use Rattle.ele_model.specs.World.{World, current_of, default_of, file_by, file_written, fresh_world, has_draft, is_directory, is_draft, is_draft_after, is_file, is_handle, is_held, is_live, is_live_name_of, is_open, is_target_file, is_version, is_version_after, is_writer, next_of, policy_of, reads_by, reads_version, root, writes}
pub use Rattle.ele_model.specs.declared.event.Event.{Event}
pub use Rattle.ele_model.specs.declared.event.Event.TheVariants.{Abandon, CleanOne, Clock, Close, Create, Due, GroupAdd, GroupDrop, GroupMake, GroupRemove, GroupsAll, Link, MakeDir, Mark, OpenRead, OpenWrite, Read, Rename, Restorable, Restore, Revert, Save, SetDefault, SetPolicy, Stat, Tick, Truncate, Undelete, Unlink, Unmark, UsageAll, Write}
pub use Rattle.ele_model.specs.declared.event.Source.TheVariants.{Of, Tagged}
pub use Rattle.ele_model.specs.declared.limits.Counts.{Counts}
pub use Rattle.ele_model.specs.declared.refusal.Refusal.{Refusal}
pub use Rattle.ele_model.specs.declared.refusal.Refusal.TheVariants.{Forgotten, NoEntry, NoHandle}
pub use Rattle.ele_model.specs.declared.reply.Reply.{Reply}
pub use Rattle.ele_model.specs.declared.reply.Reply.TheVariants.{Bytes, Done, Nothing, Refused, Removed}
pub use Rattle.ele_model.specs.declared.rows.DeletedName.{DeletedName}
pub use Rattle.ele_model.specs.declared.rows.DirectoryRow.{DirectoryRow}
pub use Rattle.ele_model.specs.declared.rows.DraftRow.{DraftRow}
pub use Rattle.ele_model.specs.declared.rows.FileRow.{FileRow}
pub use Rattle.ele_model.specs.declared.rows.GroupRow.{GroupRow}
pub use Rattle.ele_model.specs.declared.rows.HandleRow.{HandleRow}
pub use Rattle.ele_model.specs.declared.rows.MarkRow.{MarkRow}
pub use Rattle.ele_model.specs.declared.cover.Cover.{Cover}
pub use Rattle.ele_model.specs.declared.cover.Cover.TheVariants.{Always, Free, Until}
pub use Rattle.ele_model.specs.declared.rows.NameRow.{NameRow}
pub use Rattle.ele_model.specs.declared.rows.Reads.{Reads}
pub use Rattle.ele_model.specs.declared.rows.Reads.TheVariants.{Draft, Version}
pub use Rattle.ele_model.specs.declared.rows.Target.{Target}
pub use Rattle.ele_model.specs.declared.rows.Target.TheVariants.{Directory, File}
pub use Rattle.ele_model.specs.declared.rows.VersionRow.{VersionRow}
