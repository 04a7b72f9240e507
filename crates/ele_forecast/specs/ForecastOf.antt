-- What a forecast says of a version.
use Rattle.std.specs.Prelude.{◌≡◌, ℕ, ◌+◌, ◌<◌, ◌≤◌, true, false, List, Some, None, IsSome, find, map}
use Rattle.std.specs.List.{AllByRecursion}
use Rattle.ele_moment.specs.Last.{last_moment}
use Rattle.ele_policy.specs.Ripe.{lets_go}
use Rattle.ele_policy.specs.declared.cause.Cause.{Cause}
use Rattle.ele_policy.specs.declared.policy.Policy.{Policy}
use Rattle.ele_model.specs.declared.rows.VersionRow.{VersionRow}
use Rattle.ele_model.specs.Fate.{HasCause}
use Rattle.ele_model.specs.FileView.{FileView, beside, ripe_in}
use Rattle.ele_model.specs.RipeRows.{is_numbered}
use Rattle.ele_forecast.specs.FileOf.{IsFileOf, Life, lives_from}
use Rattle.ele_forecast.specs.declared.forecast.Forecast.{Forecast}
use Rattle.ele_forecast.specs.declared.forecast.Why.{Why}
use Rattle.ele_forecast.specs.declared.forecast.Why.TheVariants.{Current, Never, AfterLast, Goes}

-- the version's policy lets it go from its ripe moment on, for this cause
pub record GoesFor (v : FileView) (row : VersionRow) (cause : Cause) : Type 0 where
  pub ripe : ℕ
  pub ripens : ripe_in v row ≡ Some ripe
  pub why : HasCause v row ripe cause

-- the version has ended, and its policy keeps it beside its newer ones, at each age that any version may reach
pub record StaysAlways (v : FileView) (row : VersionRow) : Type 0 where
  pub has_ended : IsSome row.ended
  pub policy : Policy
  pub policy_is : v.policy ≡ Some policy
  pub kept : (age : ℕ) → age ≤ last_moment → lets_go policy row.closed (beside v row) age ≡ false

-- its policy lets it go at one of these ages, and it reaches that only after the last moment
pub record GoesAfterLast (v : FileView) (row : VersionRow) : Type 0 where
  pub ended : ℕ
  pub has_ended : row.ended ≡ Some ended
  pub policy : Policy
  pub policy_is : v.policy ≡ Some policy
  pub age : ℕ
  pub reached : age ≤ last_moment
  pub goes : lets_go policy row.closed (beside v row) age ≡ true
  pub late : last_moment < ended + age

-- why the version is due from its ripe moment on, or has none
abbrev pub IsReasonOf : FileView → VersionRow → Why → Type 0
IsReasonOf v row Current = row.ended ≡ None
IsReasonOf v row Never = StaysAlways v row × (ripe_in v row ≡ None)
IsReasonOf v row AfterLast = GoesAfterLast v row × (ripe_in v row ≡ None)
IsReasonOf v row (Goes cause) = GoesFor v row cause

-- a forecast of that version of the file
pub record TellsOf (v : FileView) (row : VersionRow) (forecast : Forecast) : Type 0 where
  pub closed : forecast.closed ≡ row.closed
  pub ended : forecast.ended ≡ row.ended
  pub ripe : forecast.ripe ≡ ripe_in v row
  pub why : IsReasonOf v row forecast.why

-- the file holds the version with the forecast's number, and the forecast describes it
pub record IsForecastOf (v : FileView) (forecast : Forecast) : Type 0 where
  pub row : VersionRow
  pub held : find (is_numbered forecast.number) v.rows ≡ Some row
  pub told : TellsOf v row forecast

abbrev pub told_life : Forecast → Life
told_life forecast = (forecast.number, forecast.closed, forecast.ended)

-- one forecast for each of the closings, in order, with the number, the closing and the end of its version
pub record AreForecasts (policy : Policy) (closings : List ℕ) (forecasts : List Forecast) : Type 0 where
  pub lives : map told_life forecasts ≡ lives_from 1 closings
  pub tell : (v : FileView) → IsFileOf policy closings v → AllByRecursion (IsForecastOf v) forecasts
