-- Versions without a newer one.
use Rattle.std.specs.Prelude.{◌-◌, nat_le, Bool}
use Rattle.ele_policy.specs.declared.rule.Rule.{Rule}

-- one newer version fewer than the rule asks for is enough, which is true exactly if it asks for none
abbrev pub few_enough : Rule → Bool
few_enough rule = nat_le rule.newer (rule.newer - 1)
