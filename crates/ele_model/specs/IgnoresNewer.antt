-- Which policies look at the version alone. No public clause cites this module.
use Rattle.std.specs.Prelude.{◌==◌, Bool, true, false, not, ◌||◌}
use Rattle.ele_policy.specs.declared.policy.Policy.{Policy}
use Rattle.ele_policy.specs.declared.policy.Policy.TheVariants.{One, All, Safe, Landmarks}

-- the policy does so in a file that is live or not
abbrev pub ignores_newer : Policy → Bool → Bool
ignores_newer One live = true
ignores_newer All live = true
ignores_newer (Safe interval floor) live = not live || (floor == 0)
ignores_newer (Landmarks rungs) live = false
