-- The words and lemmas of the crates below that proofs here use, in one place.
pub use Rattle.ele_due.specs.declared.key.Key.{Key}
pub use Rattle.ele_due.specs.HasKey.{has_key}
pub use Rattle.ele_fates.specs.Keys.{comes, goes}
pub use Rattle.ele_model.proofs.Basics.{AllByRecursion, AllLater, Bool, IfSome, List, None, Option, Some, [], any-found, ap, arith, bytes_eq-Decides, drop, false, filter, find, found_passes, list_any, nat_le, nat_tests, not, option_and_then, option_map_or, refl, slice_get, suc, sym, take, true, zero, ℕ, ◌&&◌, ◌==◌, ◌||◌, ◌∙◌, ◌∷◌, ◌≡◌, ◌≤◌}
pub use Rattle.ele_model.specs.Cover.{cover_of, longer, ripe_past}
pub use Rattle.ele_model.specs.GroupRows.{has_member}
pub use Rattle.ele_model.specs.GroupsAsked.{cover_without, members_of}
pub use Rattle.ele_model.specs.declared.cover.Cover.{Cover}
pub use Rattle.ele_model.specs.declared.rows.GroupRow.{GroupRow}
pub use Rattle.ele_model.specs.declared.rows.MarkRow.{MarkRow}
