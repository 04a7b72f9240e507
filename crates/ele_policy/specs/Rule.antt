-- Floors: how many newer versions a live file must hold before its policy lets one go.
use Rattle.std.specs.Prelude.{ℕ, nat_le, Bool, not, ◌||◌}
use Rattle.ele_policy.specs.declared.policy.Policy.{Policy}
use Rattle.ele_policy.specs.declared.policy.Policy.TheVariants.{Safe}

-- the policy's floor; only Keep Safe has one
abbrev pub floor_of : Policy → ℕ
floor_of (Safe interval floor) = floor
floor_of policy = 0

-- so many newer held versions are enough for the policy, in a file that is live or not: without a live name no floor is in force
abbrev pub meets_floor : Policy → Bool → ℕ → Bool
meets_floor policy live newer = not live || nat_le (floor_of policy) newer
