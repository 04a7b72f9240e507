-- The words of the world and of lists that proofs here use, in one place.
pub use Rattle.ele_model.proofs.Basics.{◌≡◌, ℕ, zero, suc, ◌+◌, ◌-◌, ◌<◌, ◌≤◌, ◌==◌, ◌&&◌, ◌||◌, Bool, true, false, not, cond, List, [], ◌∷◌, ◌++◌, Option, Some, None, refl, ap, sym, subst, ◌∙◌, arith, nat_tests, nat_le, IfSome, IsSome, filter, find, map, slice_get, option_map, option_map_or, option_and_then, list_any, AllByRecursion, AllLater}
pub use Rattle.ele_model.proofs.Basics.{all-weaker, all-both, later-push, filter-swap, filter-same_all, later-around, later-filter, later-right, filter-append, append_assoc, length, filter-none, filter-passes}
pub use Rattle.ele_lists.proofs.Cuts.{find-at}
pub use Rattle.ele_policy.specs.Rule.{meets_floor}
pub use Rattle.ele_policy.specs.RipeCase.{counts_newer}
pub use Rattle.ele_policy.specs.Ripe.{Beside, candidates, earliest_of, is_due_by, lets_go}
pub use Rattle.ele_policy.specs.RipeCase.{IsBeside, IsRipe, alone, case_of, ripe_case}
pub use Rattle.ele_policy.specs.declared.policy.Policy.{Policy}
pub use Rattle.ele_policy.specs.declared.rule.Case.{Case}
pub use Rattle.ele_policy.specs.declared.policy.Policy.TheVariants.{One, All, Safe, Landmarks}
pub use Rattle.ele_model.specs.declared.rows.VersionRow.{VersionRow}
pub use Rattle.ele_model.specs.FileView.{FileView, beside, closings, due_in, is_newer, ripe_in}
pub use Rattle.ele_model.specs.RipeRows.{is_numbered}
pub use Rattle.ele_forecast.specs.Followed.{GoesAtSome, IsFollowed, StaysAtAll, StaysFor}
pub use Rattle.ele_forecast.specs.FileOf.{IsFileOf, Life, life_of, lives_from}
pub use Rattle.ele_forecast.specs.ForecastOf.{IsReasonOf, IsForecastOf, TellsOf}
pub use Rattle.ele_forecast.specs.declared.forecast.Forecast.{Forecast}
pub use Rattle.ele_model.specs.FileView.{ends_over}
pub use Rattle.ele_model.specs.GroupRows.{keeps_at}
pub use Rattle.ele_model.specs.declared.rows.MarkRow.{MarkRow}
pub use Rattle.std.proofs.Common.{drop, append-nil}
pub use Rattle.ele_moment.specs.Last.{last_moment}
pub use Rattle.ele_policy.specs.Lawful.{IsLawful}
pub use Rattle.ele_model.specs.World.{World}
pub use Rattle.ele_model.specs.FileView.{file_view, is_version_of}
pub use Rattle.ele_model.specs.Due.{is_due_at, kept_rows}
pub use Rattle.ele_forecast.specs.Stays.{AreKept, come_by, numbers_of}
pub use Rattle.ele_forecast.specs.StaysBehind.{goes, kept_from}
pub use Rattle.ele_forecast.specs.declared.forecast.Why.{Why}
pub use Rattle.ele_forecast.specs.declared.forecast.Why.TheVariants.{Current, Never, AfterLast, Goes}
