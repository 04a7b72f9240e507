-- What a version's ripe moment depends on.
use Rattle.std.specs.Prelude.{◌≡◌, ℕ, Bool, Some, find}
use Rattle.std.specs.Option.{option_map}
use Rattle.ele_files.specs.declared.files.newer.Beside.{Beside}
use Rattle.ele_files.specs.Held.{Held}
use Rattle.ele_model.specs.declared.rows.VersionInfo.{VersionInfo}
use Rattle.ele_model.specs.Neighbours.{case_in, is_newer_of}
use Rattle.ele_model.specs.Told.{info_of}
use Rattle.ele_model.specs.World.{policy_of}
use Rattle.ele_policy.specs.declared.rule.Rule.{Rule}
use Rattle.ele_policy.specs.RipeCase.{rule_in}

-- its case under the rule of its file, which is live or not, and the next held version
pub record IsBeside (h : Held) (file : ℕ) (info : VersionInfo) (is_live : Bool) (beside : Beside) : Type 0 where
  pub rule : Rule
  pub ruled : option_map (λ policy. rule_in policy is_live) (policy_of h.files file) ≡ Some rule
  pub case : beside.case ≡ case_in rule h.versions file info.number info.closed
  pub next : beside.next ≡ option_map info_of (find (is_newer_of file info.number) h.versions)
