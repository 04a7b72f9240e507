-- How long a policy waits. No public clause cites this module.
use Rattle.std.specs.Prelude.{ℕ, ◌+◌, nat_le, Bool, List, length, Option, Some, None, find, option_and_then, if◌then◌else◌}
use Rattle.std.specs.List.{list_any}
use Rattle.std.specs.Option.{option_map}
use Rattle.ele_moment.specs.Last.{last_moment}
use Rattle.ele_policy.specs.declared.policy.Policy.{Policy}
use Rattle.ele_policy.specs.declared.policy.Policy.TheVariants.{One, All, Safe, Landmarks}
use Rattle.ele_policy.specs.Rule.{meets_floor}
use Rattle.ele_policy.specs.Ladder.{Rung, shares}
use Rattle.ele_policy.specs.Ripe.{Beside}

-- one of the newer versions closed in the span of the rung in which this one closed
abbrev pub has_newer : ℕ → List ℕ → Rung → Bool
has_newer closed newer rung = list_any (λ n. shares closed n rung) newer

-- how long after its end the policy lets go a version that closed then
abbrev pub wait : Policy → ℕ → Beside → Option ℕ
wait One closed beside = Some 0
wait All closed beside = None
wait (Safe interval floor) closed beside = if meets_floor (Safe interval floor) beside.live (length beside.newer) then Some interval else None
wait (Landmarks rungs) closed beside = option_map (λ rung. rung.0) (find (has_newer closed beside.newer) rungs)

-- the moment, if it isn't past the last one
abbrev pub in_time : ℕ → Option ℕ
in_time at = if nat_le at last_moment then Some at else None

-- the ripe moment: so long after the end
abbrev pub ripe_after : Policy → ℕ → ℕ → Beside → Option ℕ
ripe_after policy closed ended beside = option_and_then (λ age. in_time (ended + age)) (wait policy closed beside)
