-- A usage that counts for one kind of policy.
use Rattle.std.specs.Prelude.{if◌then◌else◌}
use Rattle.ele_policy.specs.declared.policy.Kind.{Kind}
use Rattle.ele_policy.specs.Policy.{is_kind}
use Rattle.ele_usage.specs.declared.usage.Usage.{Usage}
use Rattle.ele_usage.specs.Adding.{nothing}

-- the usage at that kind, and nothing at the others
abbrev pub only_at : Kind → Usage → Kind → Usage
only_at kind usage k = if is_kind kind k then usage else nothing
