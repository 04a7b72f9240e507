-- The words and lemmas of std and of lists that proofs here use, in one place.
pub use Rattle.ele_lists.proofs.Alls.{filter-passes}
pub use Rattle.ele_lists.proofs.Cuts.{remove_first-unfound}
pub use Rattle.ele_lists.proofs.Edits.{all-any, all-both, all-found, all-insert_before, all-none, all-not_found, all-push, all-remove_first, all-update_first, all-weaker, found_passes, later-insert_before, later-push, later-remove_first, later-update_first, length-remove_first-le, list_any-insert_before, list_any-remove_first, list_any-update_first}
pub use Rattle.ele_lists.proofs.Keys.{remove_first-key}
pub use Rattle.ele_lists.proofs.Places.{find-none, find-position}
pub use Rattle.ele_lists.proofs.ShownAt.{any-missing, any-shown, find-missing, find-shown, insert-shown, remove-place, remove-shown, rises-map, set-shown}
pub use Rattle.ele_lists.proofs.Sums.{any-count, sum_by-around, sum_by-remove_first, sum_by-same}
pub use Rattle.ele_lists.specs.Keys.{stands_by, is_behind}
pub use Rattle.ele_lists.specs.Lists.{insert_before, remove_first, update_first}
pub use Rattle.ele_rows.specs.Tally.{counted}
pub use Rattle.ele_rows.specs.declared.tally.Tally.{Tally}
pub use Rattle.std.proofs.Common.{Bool, Err, List, MatchBool, None, Ok, Option, Result, Some, [], ap, append-nil, arith, cond, eqb, false, get_or, length, nat_lt, not, refl, subst, sym, true, ℕ, ◌++◌, ◌+◌, ◌-◌, ◌<◌, ◌||◌, ◌∙◌, ◌∷◌, ◌≡◌, ◌≤◌}
pub use Rattle.std.proofs.Math.ListN.{set}
pub use Rattle.std.proofs.Math.Seq.{map-set_same}
pub use Rattle.std.proofs.lemmas.Bool.{false≢true}
pub use Rattle.std.proofs.lemmas.Bool.Decides.{nat_tests}
pub use Rattle.std.proofs.lemmas.List.{length-append}
pub use Rattle.std.specs.List.{AllByRecursion, count_by, filter, find, insert, list_any, position, remove, sum_by}
pub use Rattle.std.specs.Option.{option_map, unwrap_or}
pub use Rattle.std.specs.Result.{IfErr, IfOk, OnErr}
pub use Rattle.std.proofs.lemmas.List.Folds.{list_any-append}
