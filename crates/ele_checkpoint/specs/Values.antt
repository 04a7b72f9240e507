-- Single values: their bytes.
use Rattle.std.specs.Prelude.{ℕ, Bool, true, false, List, [], ◌∷◌, ◌++◌, length, Option, Some, None}
use Rattle.ele_policy.specs.Ladder.{Rung}
use Rattle.ele_policy.specs.declared.policy.Policy.{Policy}
use Rattle.ele_policy.specs.declared.policy.Policy.TheVariants as policies
use Rattle.ele_model.specs.declared.rows.Target.{Target}
use Rattle.ele_model.specs.declared.rows.Target.TheVariants as targets
use Rattle.ele_model.specs.declared.rows.Reads.{Reads}
use Rattle.ele_model.specs.declared.rows.Reads.TheVariants as readings
use Rattle.ele_checkpoint.specs.Number.{number_text}
use Rattle.ele_checkpoint.specs.Lists.{list_text}

-- bytes, with their number first
abbrev pub string_text : List ℕ → List ℕ
string_text bytes = number_text (length bytes) ++ bytes

abbrev pub truth_text : Bool → List ℕ
truth_text false = 0 ∷ []
truth_text true = 1 ∷ []

-- a moment or none
abbrev pub maybe_text : Option ℕ → List ℕ
maybe_text None = 0 ∷ []
maybe_text (Some seconds) = 1 ∷ number_text seconds

abbrev pub rung_text : Rung → List ℕ
rung_text pair = number_text pair.0 ++ number_text pair.1

-- a policy: the number of its kind, and its numbers
abbrev pub policy_text : Policy → List ℕ
policy_text policies.One = 0 ∷ []
policy_text policies.All = 1 ∷ []
policy_text (policies.Safe interval floor) = 2 ∷ (number_text interval ++ number_text floor)
policy_text (policies.Landmarks rungs) = 3 ∷ list_text rung_text rungs

abbrev pub target_text : Target → List ℕ
target_text (targets.File id) = 0 ∷ number_text id
target_text (targets.Directory id) = 1 ∷ number_text id

abbrev pub reads_text : Reads → List ℕ
reads_text (readings.Draft file_text) = 0 ∷ number_text file_text
reads_text (readings.Version file_text version_text) = 1 ∷ (number_text file_text ++ number_text version_text)
