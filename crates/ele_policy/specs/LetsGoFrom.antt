-- A policy lets a version go from one age on, or never. That age depends on the version's case alone, whatever else is beside it.
use Rattle.std.specs.Prelude.{◌≡◌, ℕ, nat_le, false, Option}
use Rattle.std.specs.Option.{option_map_or}
use Rattle.ele_policy.specs.declared.rule.Case.{Case}
use Rattle.ele_policy.specs.Policy.{IsPolicy}
use Rattle.ele_policy.specs.Ripe.{Beside, lets_go}
use Rattle.ele_policy.specs.RipeCase.{IsBeside}

abbrev pub LetsGoFrom : Type 0
LetsGoFrom =
    (case : Case) → IsPolicy case.policy
    → (wait : Option ℕ) × ((beside : Beside) (age : ℕ) → IsBeside case beside
    → lets_go case.policy case.closed beside age ≡ option_map_or (λ least. nat_le least age) wait false)
