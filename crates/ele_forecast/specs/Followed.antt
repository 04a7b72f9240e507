-- A version with newer ones after it. No public clause cites this module.
use Rattle.std.specs.Prelude.{◌≡◌, ℕ, ◌≤◌, true, false, List, [], ◌∷◌, filter, Some}
use Rattle.ele_moment.specs.Last.{last_moment}
use Rattle.ele_policy.specs.Ripe.{Beside, lets_go}
use Rattle.ele_policy.specs.RipeCase.{IsBeside, case_of}
use Rattle.ele_policy.specs.Rule.{meets_floor}
use Rattle.ele_policy.specs.declared.policy.Policy.{Policy}
use Rattle.ele_policy.specs.declared.rule.Case.{Case}
use Rattle.ele_forecast.specs.declared.forecast.Why.{Why}
use Rattle.ele_forecast.specs.declared.forecast.Why.TheVariants.{Current, Never, AfterLast, Goes}
use Rattle.ele_model.specs.declared.rows.VersionRow.{VersionRow}
use Rattle.ele_model.specs.FileView.{FileView, beside, is_newer}

-- in a file under the policy, unread and unmarked: `next` is the first of so many newer versions, which are enough or not in a live file,
-- and the row ended as it closed
pub record IsFollowed (policy : Policy) (v : FileView) (row next : VersionRow) (newer : ℕ) : Type 0 where
  pub policy_is : v.policy ≡ Some policy
  pub unread : v.pinned ≡ []
  pub unmarked : v.marks ≡ []
  pub ended : row.ended ≡ Some next.closed
  pub later : List VersionRow
  pub behind : filter (is_newer row) v.rows ≡ next ∷ later
  pub case : IsBeside (case_of policy row.closed (Some next.closed) (meets_floor policy true newer)) (beside v row)

-- whatever is beside a version of the case, its policy keeps it at each age
abbrev pub StaysAtAll : Case → Type 0
StaysAtAll case = (beside : Beside) → IsBeside case beside → (age : ℕ) → age ≤ last_moment → lets_go case.policy case.closed beside age ≡ false

-- whatever is beside it, its policy lets it go at the age
pub record GoesAtSome (case : Case) : Type 0 where
  pub age : ℕ
  pub reached : age ≤ last_moment
  pub goes : (beside : Beside) → IsBeside case beside → lets_go case.policy case.closed beside age ≡ true

-- why a version of the case without a ripe moment stays
abbrev pub StaysFor : Case → Why → Type 0
StaysFor case Current = ⊥
StaysFor case Never = StaysAtAll case
StaysFor case AfterLast = GoesAtSome case
StaysFor case (Goes cause) = ⊥
