-- The words and lemmas that proofs here use, in one place.
pub use Rattle.ele_lists.proofs.Alls.{all-append, all-map, all-right, later-around, later-map, later-place, map-all, map-later}
pub use Rattle.ele_lists.proofs.Edits.{all-any, all-both, all-found, all-not_found, all-push, all-weaker, found_passes, later-push, not_found}
pub use Rattle.ele_lists.proofs.Keys.{rises-parted, place-found, place-missing, end-missing}
pub use Rattle.ele_lists.proofs.Places.{find-none, find-position}
pub use Rattle.ele_lists.proofs.Taken.{all-at, any-none_taken}
pub use Rattle.ele_lists.specs.Keys.{Rises, stands_by}
pub use Rattle.ele_lists.specs.Last.{last_passing}
pub use Rattle.ele_lists.specs.Lists.{AllLater}
pub use Rattle.std.proofs.Common.{Bool, IfSome, List, None, Option, Some, [], add-one, ap, arith, cond, drop, eqb, false, filter, filter_map, find, get_or, inl, inr, is_none, is_some, length, leb, ltb, map, nat_cmp, nat_lt, not, option_copied, option_map, refl, rules, slice_get, subst, suc, sym, take, take_all, true, zero, ℕ, ◌&&◌, ◌++◌, ◌+◌, ◌-◌, ◌<◌, ◌==◌, ◌||◌, ◌∙◌, ◌∷◌, ◌≡◌, ◌≤◌, ◌⊎◌}
pub use Rattle.std.proofs.lemmas.Bool.{false≢true}
pub use Rattle.std.proofs.lemmas.Bool.Decides.{nat_tests}
pub use Rattle.std.proofs.lemmas.List.{drop_more, length-append, take_more}
pub use Rattle.std.proofs.lemmas.List.Concat.{flat_map-cons}
pub use Rattle.std.proofs.lemmas.List.Folds.{list_any-append}
pub use Rattle.std.proofs.lemmas.List.Sorted.{IsPartitionPoint-from_clause}
pub use Rattle.std.proofs.lemmas.Option.{slice_get-get_or, slice_get_past, slice_get_read, slice_get_within}
pub use Rattle.std.proofs.lemmas.Slice.Eq.{bytes_eq-Decides}
pub use Rattle.std.specs.List.{AllByRecursion, list_any}
pub use Rattle.std.specs.Option.{option_map_or, option_or}
pub use Rattle.std.specs.List.Sorted.{IsPartitionPoint, IsPartitionedBy}
pub use Rattle.std.specs.Str.{bytes_eq}
pub use Rattle.ele_content.specs.Content.{content_of, fill_slots, longest_content}
pub use Rattle.ele_content.specs.declared.cell.Cell.{Cell}
pub use Rattle.ele_model.specs.Change.{is_idle}
pub use Rattle.ele_model.specs.FileView.{is_version_of}
pub use Rattle.ele_model.specs.NameRows.{is_live_directory, is_name_of_directory, is_named, is_target_directory}
pub use Rattle.ele_model.specs.NoIdleStays.{HasNoIdle}
pub use Rattle.ele_model.specs.WellFormed.{AreApart, AreNames, AreOthers, ArePlaced, AreVersions, HaveCurrent, IsContent, IsNameRow, IsThere, IsVersion, IsWellFormed, has_directory, is_current}
pub use Rattle.ele_model.specs.World.{World, is_directory, is_draft, is_file, is_live, is_live_name_of, is_target_file, is_version, is_version_after, is_writer, next_of, root}
pub use Rattle.ele_model.specs.declared.rows.DirectoryRow.{DirectoryRow}
pub use Rattle.ele_model.specs.declared.rows.DraftRow.{DraftRow}
pub use Rattle.ele_model.specs.declared.rows.FileRow.{FileRow}
pub use Rattle.ele_model.specs.declared.rows.GroupRow.{GroupRow}
pub use Rattle.ele_model.specs.declared.rows.HandleRow.{HandleRow}
pub use Rattle.ele_model.specs.declared.rows.HandleRow.{HandleRow}
pub use Rattle.ele_model.specs.declared.rows.MarkRow.{MarkRow}
pub use Rattle.ele_model.specs.declared.rows.NameRow.{NameRow}
pub use Rattle.ele_model.specs.declared.rows.Target.{Target}
pub use Rattle.ele_model.specs.declared.rows.Target.TheVariants.{Directory, File}
pub use Rattle.ele_model.specs.declared.rows.VersionRow.{VersionRow}
pub use Rattle.ele_well_formed.specs.Fault.{CountsHold, DirectoriesHold, HasContents, HasCurrent, HasLives, HasNames, HasNumbered, IsDirectory, IsNamed}
pub use Rattle.ele_well_formed.specs.Means.{AreMarks, AreMembers, AreMoments, AreNamesApart, IsDeadBy, IsLife, IsMark, IsNumbered, IsSpan, directory_in, endless, file_in, file_written, is_before, is_endless, live_directory, live_file}
pub use Rattle.ele_well_formed.specs.Wrong.{IsMisplaced, IsWrong}
