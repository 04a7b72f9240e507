-- The fate of a version by the marks of its groups, and by its policy alone.
use Rattle.std.specs.Prelude.{◌≡◌, ℕ, nat_le, true, false, List, Option, Some, find, option_and_then, slice_get}
use Rattle.std.specs.Option.{option_map_or}
use Rattle.ele_policy.specs.Cause.{IsCause}
use Rattle.ele_policy.specs.RipeCase.{ripe_case}
use Rattle.ele_policy.specs.declared.rule.Case.{Case}
use Rattle.ele_policy.specs.declared.cause.Cause.{Cause}
use Rattle.ele_policy.specs.declared.cause.Newer.{Newer}
use Rattle.ele_policy.specs.declared.policy.Policy.{Policy}
use Rattle.ele_model.specs.declared.cover.Cover.{Cover}
use Rattle.ele_model.specs.Cover.{ripe_past}
use Rattle.ele_model.specs.declared.fate.Fate.{Fate}
use Rattle.ele_model.specs.declared.fate.Fate.TheVariants.{Kept, Due}
use Rattle.ele_model.specs.declared.rows.GroupRow.{GroupRow}
use Rattle.ele_model.specs.declared.rows.MarkRow.{MarkRow}
use Rattle.ele_model.specs.declared.rows.VersionInfo.{VersionInfo}
use Rattle.ele_model.specs.Fate.{level_reached}
use Rattle.ele_model.specs.GroupRows.{is_member, keeps_at}

-- the group at that place has the file; its name is `name`, and its first mark that covers the version and is in force at the moment is
-- `mark`
pub record MarksAt (groups : List GroupRow) (place file closed : ℕ) (ended : Option ℕ) (at : ℕ) (name : List ℕ) (mark : MarkRow) : Type 0 where
  pub group : GroupRow
  pub there : slice_get groups place ≡ Some group
  pub member : is_member file group ≡ true
  pub named : group.name ≡ name
  pub first : find (keeps_at closed ended at) group.marks ≡ Some mark

-- a newer version, by its info
abbrev pub newer_of : VersionInfo → Newer
newer_of info = record { number = info.number; closed = info.closed }

-- this is the cause, whatever other newer versions are held after the next one
abbrev pub IsCauseBy : Policy → ℕ → ℕ → Option Newer → ℕ → Cause → Type 0
IsCauseBy policy closed ended next since cause = (newer : List Newer) → slice_get newer 0 ≡ next → IsCause policy closed ended newer since cause

-- the fate at the moment of a version of that case that ended then, with that next version, and with a cover that doesn't last until then
abbrev pub IsFreeFate : Cover → Case → Option Newer → ℕ → ℕ → Fate → Type 0
IsFreeFate cover case next ended now (Kept until level) =
    (until ≡ option_and_then (ripe_past cover) (ripe_case case ended)) × (option_map_or (λ m. nat_le m now) until false ≡ false) × (level ≡ level_reached (Some case.policy) (Some ended) now)
IsFreeFate cover case next ended now (Due since cause) =
    (option_and_then (ripe_past cover) (ripe_case case ended) ≡ Some since) × (nat_le since now ≡ true) × IsCauseBy case.policy case.closed ended next since cause
IsFreeFate cover case next ended now other = ⊥
