-- A file that closed at these moments, as the definitions of the world see it.
use Rattle.std.specs.Prelude.{◌≡◌, ℕ, ◌+◌, true, List, [], ◌∷◌, map, Option, Some, slice_get}
use Rattle.ele_policy.specs.declared.policy.Policy.{Policy}
use Rattle.ele_model.specs.declared.rows.VersionRow.{VersionRow}
use Rattle.ele_model.specs.FileView.{FileView}

-- a version's number, when it closed, and when it ended, if it has
abbrev pub Life : Type 0
Life = ℕ × ℕ × Option ℕ

abbrev pub life_of : VersionRow → Life
life_of row = (row.number, row.closed, row.ended)

-- versions numbered from there on, one for each closing: each ended as the next one closed, and the last has no end
abbrev pub lives_from : ℕ → List ℕ → List Life
lives_from number [] = []
lives_from number (closed ∷ later) = (number, closed, slice_get later 0) ∷ lives_from (number + 1) later

-- the file is under the policy, live, unread and unmarked, and holds the versions of these closings, the first of which is 1
pub record IsFileOf (policy : Policy) (closings : List ℕ) (v : FileView) : Type 0 where
  pub policy_is : v.policy ≡ Some policy
  pub live : v.live ≡ true
  pub unread : v.pinned ≡ []
  pub unmarked : v.marks ≡ []
  pub lives : map life_of v.rows ≡ lives_from 1 closings
