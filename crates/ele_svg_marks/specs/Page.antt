-- How high the rows of a drawing are, and how many rows its labels have.
use Rattle.std.specs.Prelude.{List, [], if◌then◌else◌, length, min, nat_le, ℕ}
use Rattle.ele_forecast_text.specs.declared.staying.Staying.{Staying}
use Rattle.ele_policy.specs.Ladder.{Rung}
use Rattle.ele_policy.specs.declared.policy.Policy.{Policy}
use Rattle.ele_policy.specs.declared.policy.Policy.TheVariants as policy

-- rows are lower if there are many
abbrev pub row_height : ℕ → ℕ
row_height count = if nat_le count 60 then 18 else 10

-- the pairs of a policy's ladder
abbrev pub rungs_of : Policy → List Rung
rungs_of (policy.Landmarks rungs) = rungs
rungs_of other = []

-- there are three rows of labels at most
abbrev pub label_rows : List Staying → ℕ
label_rows stayings = min (length stayings) 3
