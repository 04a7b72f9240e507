-- When a policy lets an ended version go.
use Rattle.std.specs.Prelude.{ℕ, ◌+◌, ◌-◌, min, nat_le, Bool, true, false, ◌&&◌, List, [], ◌∷◌, map, length, Option, Some, None, if◌then◌else◌}
use Rattle.std.specs.List.{list_any}
use Rattle.std.specs.Option.{option_map_or}
use Rattle.ele_moment.specs.Last.{last_moment}
use Rattle.ele_policy.specs.declared.policy.Policy.{Policy}
use Rattle.ele_policy.specs.declared.policy.Policy.TheVariants.{One, All, Safe, Landmarks}
use Rattle.ele_policy.specs.Rule.{meets_floor}
use Rattle.ele_policy.specs.Ladder.{level_of, rung_at, shares}

-- what a policy sees beside a version in its file: when the newer held ones closed, in order, and whether the file is live
pub record Beside : Type 0 where
  pub newer : List ℕ
  pub live : Bool

-- the policy lets go a version that closed then, so many seconds after its end. A ladder does so if a newer one is in its span, at the
-- level of its age; Keep Safe does so after its interval if enough newer ones are beside it
abbrev pub lets_go : Policy → ℕ → Beside → ℕ → Bool
lets_go One closed beside age = true
lets_go All closed beside age = false
lets_go (Safe interval floor) closed beside age = nat_le interval age && meets_floor (Safe interval floor) beside.live (length beside.newer)
lets_go (Landmarks rungs) closed beside age =
    option_map_or (λ rung. list_any (λ newer. shares closed newer rung) beside.newer) (rung_at rungs (level_of rungs age)) false

-- by the policy alone, a version that closed and ended then is due at the moment
abbrev pub is_due_by : Policy → ℕ → Beside → ℕ → ℕ → Bool
is_due_by policy closed beside ended at = nat_le ended at && lets_go policy closed beside (at - ended)

-- the moments at which it may become due
abbrev pub candidates : Policy → ℕ → List ℕ
candidates One ended = ended ∷ []
candidates All ended = []
candidates (Safe interval floor) ended = (ended + interval) ∷ []
candidates (Landmarks rungs) ended = map (λ rung. ended + rung.0) rungs

-- the earliest of the moments that pass the test; none past the last moment
abbrev pub earliest_of : (ℕ → Bool) → List ℕ → Option ℕ
earliest_of holds [] = None
earliest_of holds (at ∷ moments) =
    if nat_le at last_moment && holds at then Some (option_map_or (min at) (earliest_of holds moments) at) else earliest_of holds moments
