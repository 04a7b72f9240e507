-- Ripe moments as the state computes them: for a case, which has no list of newer versions. Clauses of the state use this module; a reader
-- of the core doesn't need it.
use Rattle.std.specs.Prelude.{◌≡◌, ℕ, ◌≤◌, Bool, true, false, not, ◌||◌, [], ◌∷◌, length, Option, Some, None, slice_get, if◌then◌else◌}
use Rattle.ele_lists.specs.Lists.{AllLater}
use Rattle.ele_policy.specs.declared.policy.Policy.{Policy}
use Rattle.ele_policy.specs.declared.policy.Policy.TheVariants.{Safe}
use Rattle.ele_policy.specs.declared.rule.Case.{Case}
use Rattle.ele_policy.specs.Rule.{meets_floor, floor_of}
use Rattle.ele_policy.specs.Ripe.{Beside, is_due_by, candidates, earliest_of}
use Rattle.ele_policy.specs.declared.rule.Rule.{Rule}
use Rattle.std.specs.Option.{option_map}
use Rattle.ele_policy.specs.declared.cause.Newer.{Newer}

-- the policy asks how many newer ones are held
abbrev pub counts_newer : Policy → Bool
counts_newer (Safe interval floor) = true
counts_newer policy = false

-- the policy in force in a file that is live or not: the rule asks for as many newer ones as the floor, if the floor is in force
abbrev pub rule_in : Policy → Bool → Rule
rule_in policy live = record { policy = policy; newer = if live then floor_of policy else 0 }

-- when the newer version closed, if there is one
abbrev pub closing_of : Option Newer → Option ℕ
closing_of nearest = option_map (λ other. other.closed) nearest

-- a version with at most one newer one beside it, and no floor in force
abbrev pub alone : Option ℕ → Beside
alone None = record { newer = []; live = false }
alone (Some nearest) = record { newer = nearest ∷ []; live = false }

-- the earliest of its candidates at which the version is due
unfoldable pub ripe_by : Policy → ℕ → Beside → ℕ → Option ℕ
ripe_by policy closed beside ended = earliest_of (is_due_by policy closed beside ended) (candidates policy ended)

-- the case of a version that closed then, with the next one's closing, and whether enough newer ones are held
abbrev pub case_of : Policy → ℕ → Option ℕ → Bool → Case
case_of policy closed next enough = record { policy = policy; closed = closed; next_closed = next; enough = enough }

-- the case of a version beside these newer ones
abbrev pub case_beside : Policy → ℕ → Beside → Case
case_beside policy closed beside = case_of policy closed (slice_get beside.newer 0) (meets_floor policy beside.live (length beside.newer))

-- a version of the case has this beside it: the newer closings are in order and aren't before its own. The next closing is the first of
-- them, and they are enough or not, as the case says
pub record IsBeside (case : Case) (beside : Beside) : Type 0 where
  pub in_order : AllLater ◌≤◌ (case.closed ∷ beside.newer)
  pub next : slice_get beside.newer 0 ≡ case.next_closed
  pub enough : meets_floor case.policy beside.live (length beside.newer) ≡ case.enough

-- the ripe moment of a version of that case that ended then; under Keep Safe it has none without enough newer ones
abbrev pub ripe_case : Case → ℕ → Option ℕ
ripe_case case ended = if case.enough || not (counts_newer case.policy) then ripe_by case.policy case.closed (alone case.next_closed) ended else None

-- the ripe moment, whatever else is beside the version
abbrev pub IsRipe : Case → ℕ → Option ℕ → Type 0
IsRipe case ended ripe = (beside : Beside) → IsBeside case beside → ripe ≡ ripe_by case.policy case.closed beside ended
