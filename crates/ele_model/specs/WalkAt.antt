-- What a path led to at an earlier moment.
use Rattle.std.specs.Prelude.{ℕ, nat_lt, List, Result, Err, if◌then◌else◌}
use Rattle.ele_model.specs.declared.refusal.Refusal.{Refusal}
use Rattle.ele_model.specs.declared.refusal.Refusal.TheVariants.{Future}
use Rattle.ele_model.specs.declared.rows.NameRow.{NameRow}
use Rattle.ele_model.specs.declared.rows.Target.{Target}
use Rattle.ele_model.specs.declared.rows.Target.TheVariants.{Directory}
use Rattle.ele_model.specs.NameRows.{target_at}
use Rattle.ele_model.specs.Walk.{walk_by}
use Rattle.ele_model.specs.World.{root}

-- the walk along names that covered the moment
abbrev pub walk_covering : List NameRow → ℕ → Target → List (List ℕ) → Result Target Refusal
walk_covering rows moment at names = walk_by (target_at rows moment) at names

-- the walk from the root; a moment after now is Future
abbrev pub walk_at : List NameRow → (moment now : ℕ) → List (List ℕ) → Result Target Refusal
walk_at rows moment now path = if nat_lt now moment then Err Future else walk_covering rows moment (Directory root) path
