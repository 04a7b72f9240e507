-- Which policies there are, and their kinds.
use Rattle.std.specs.Prelude.{Bool, true, false}
use Rattle.ele_policy.specs.declared.policy.Kind.{Kind}
use Rattle.ele_policy.specs.declared.policy.Kind.TheVariants as kind
use Rattle.ele_policy.specs.declared.policy.Policy.{Policy}
use Rattle.ele_policy.specs.declared.policy.Policy.TheVariants.{One, All, Safe, Landmarks}
use Rattle.ele_policy.specs.Floor.{IsFloor}
use Rattle.ele_policy.specs.Interval.{IsInterval}
use Rattle.ele_policy.specs.Ladder.{IsLadder}

-- what the types of a policy say of it
abbrev pub IsPolicy : Policy → Type 0
IsPolicy One = Unit {0}
IsPolicy All = Unit {0}
IsPolicy (Safe interval floor) = IsInterval interval × IsFloor floor
IsPolicy (Landmarks rungs) = IsLadder rungs

-- a policy is of the kind of its name
abbrev pub kind_of : Policy → Kind
kind_of One = kind.One
kind_of All = kind.All
kind_of (Safe interval floor) = kind.Safe
kind_of (Landmarks rungs) = kind.Landmarks

-- whether the two are one kind
abbrev pub is_kind : Kind → Kind → Bool
is_kind kind.One kind.One = true
is_kind kind.All kind.All = true
is_kind kind.Safe kind.Safe = true
is_kind kind.Landmarks kind.Landmarks = true
is_kind _ _ = false
