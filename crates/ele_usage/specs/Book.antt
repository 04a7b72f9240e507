-- The sums of each kind of policy.
use Rattle.ele_policy.specs.declared.policy.Kind.{Kind}
use Rattle.ele_policy.specs.declared.policy.Kind.TheVariants as kind
use Rattle.ele_usage.specs.declared.usage.Usage.{Usage}

-- four records of sums, one for each kind
pub record Book : Type 0 where
  pub one : Usage
  pub all : Usage
  pub safe : Usage
  pub landmarks : Usage

-- the sums of a kind
abbrev pub sums_of : Book → Kind → Usage
sums_of book kind.One = book.one
sums_of book kind.All = book.all
sums_of book kind.Safe = book.safe
sums_of book kind.Landmarks = book.landmarks
