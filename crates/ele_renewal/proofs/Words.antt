-- The words and lemmas that proofs here use, in one place.
pub use Rattle.ele_lists.proofs.Alls.{all-append, all-got, all-map, all-split, later-filter, later-map, later-weaker, map-all}
pub use Rattle.ele_lists.proofs.Anys.{any-weaker}
pub use Rattle.ele_lists.proofs.Edits.{all-any, all-both, all-weaker, all-found, found_passes, not_found}
pub use Rattle.ele_lists.proofs.Found.{any-found, find-same_all}
pub use Rattle.ele_lists.proofs.Shown.{any-map, find-map}
pub use Rattle.ele_lists.specs.Lists.{AllLater}
pub use Rattle.std.proofs.Common.{Bool, IfSome, List, None, Option, Some, [], ap, arith, cond, drop, false, filter, find, get_or, inl, inr, is_none, is_some, length, leb, ltb, map, min, nat_lt, not, option_map, refl, rules, slice_get, subst, suc, sum, sym, take, true, zero, ℕ, ◌&&◌, ◌++◌, ◌+◌, ◌-◌, ◌<◌, ◌==◌, ◌||◌, ◌∙◌, ◌∷◌, ◌≡◌, ◌≤◌, ◌⊎◌}
pub use Rattle.std.proofs.lemmas.Bool.Decides.{nat_tests}
pub use Rattle.std.proofs.lemmas.List.{length-append, length-map}
pub use Rattle.std.specs.List.{AllByRecursion, list_any}
pub use Rattle.std.specs.Option.{option_map_or, option_or}
pub use Rattle.std.specs.Str.{bytes_eq}
pub use Rattle.ele_content.specs.Content.{content_of, fill_slots, longest_content}
pub use Rattle.ele_content.specs.declared.cell.Cell.{Cell}
pub use Rattle.ele_model.specs.Bounds.{AreBounds, Bounds}
pub use Rattle.ele_model.specs.Change.{is_idle, version_cells}
pub use Rattle.ele_model.specs.FileView.{is_version_of}
pub use Rattle.ele_model.specs.NameRows.{is_live_directory, is_name_of_directory, is_target_directory}
pub use Rattle.ele_model.specs.NoIdleStays.{HasNoIdle}
pub use Rattle.ele_model.specs.OneContent.{Agree, HasOneContent, file_read}
pub use Rattle.ele_model.specs.OneTree.{Hangs, IsOneTree, hangs_by}
pub use Rattle.ele_model.specs.Start.{IsStart}
pub use Rattle.ele_model.specs.Step.{cells_read, draft_cells}
pub use Rattle.ele_model.specs.Tagged.{is_before}
pub use Rattle.ele_model.specs.WellFormed.{AreApart, AreCounted, AreDirectories, AreFiles, AreGroups, AreHoused, AreNames, AreOthers, ArePlaced, AreVersions, AreWrittenBy, HaveCurrent, HaveEnded, IsContent, IsDirectoryThere, IsFile, IsGroup, IsHoused, IsNameRow, IsOfLive, IsThere, IsVersion, IsWellFormed, has_directory, is_current, is_reached}
pub use Rattle.ele_model.specs.World.{World, has_draft, is_directory, is_draft, is_file, is_held, is_live, is_live_name_of, is_target_file, is_version, is_version_after, next_of, root}
pub use Rattle.ele_model.specs.declared.limits.Counts.{Counts}
pub use Rattle.ele_model.specs.declared.rows.DirectoryRow.{DirectoryRow}
pub use Rattle.ele_model.specs.declared.rows.FileRow.{FileRow}
pub use Rattle.ele_model.specs.declared.rows.GroupRow.{GroupRow}
pub use Rattle.ele_model.specs.declared.rows.MarkRow.{MarkRow}
pub use Rattle.ele_model.specs.declared.rows.NameRow.{NameRow}
pub use Rattle.ele_model.specs.declared.rows.Reads.{Reads}
pub use Rattle.ele_model.specs.declared.rows.Reads.TheVariants.{Draft, Version}
pub use Rattle.ele_model.specs.declared.rows.Target.{Target}
pub use Rattle.ele_model.specs.declared.rows.Target.TheVariants.{Directory, File}
pub use Rattle.ele_model.specs.declared.rows.VersionRow.{VersionRow}
pub use Rattle.ele_renewal.specs.Numbers.{has_block, is_written_by, new_directory, new_file, new_version, new_writer}
pub use Rattle.ele_renewal.specs.Renewed.{IsClosed, has_lost_last, renewed, renewed_cells, renewed_counts, renewed_directory, renewed_file, renewed_group, renewed_name, renewed_target, renewed_version}
