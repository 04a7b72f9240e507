-- What a walk may be refused for.
use Rattle.std.specs.Prelude.{◌≡◌, ℕ, ◌-◌, Bool, true, false, if◌then◌else◌, List, [], ◌∷◌, length, take, Option, Some, None, Result, Ok, Err, nat_lt, slice_get}
use Rattle.std.proofs.Common.{refl}
use Rattle.std.specs.Option.{option_map_or}
use Rattle.ele_model.specs.NameRows.{target_at}
use Rattle.ele_model.specs.Walk.{directory_at, live_target, parent_now, walk, walk_now}
use Rattle.ele_model.specs.WalkAt.{walk_at, walk_covering}
use Rattle.ele_model.specs.World.{root}
use Rattle.ele_model.specs.declared.refusal.Refusal.{Refusal}
use Rattle.ele_model.specs.declared.refusal.Refusal.TheVariants as refusal
use Rattle.ele_model.specs.declared.rows.NameRow.{NameRow}
use Rattle.ele_model.specs.declared.rows.Target.{Target}
use Rattle.ele_model.specs.declared.rows.Target.TheVariants.{Directory, File}
use Rattle.ele_time_path.specs.Faults.{IsOfWalk}
use Rattle.ele_time_path.specs.declared.fault.WalkFault.TheVariants as fault

walk_from : (rows : List NameRow) (at : Target) (names : List (List ℕ)) (why : Refusal) → walk rows at names ≡ Err why → IsOfWalk why
walk_from rows at [] why h = absurd cc
walk_from rows (File file) (name ∷ names) why h = record { fault = fault.NotDirectory; is = cc }
walk_from rows (Directory directory) (name ∷ names) why h = by (live_target rows directory name) (λ next. walk_from rows next names why) h where
  by : (found : Option Target) → ((next : Target) → walk rows next names ≡ Err why → IsOfWalk why) → option_map_or (λ target. walk rows target names) found (Err refusal.NoEntry) ≡ Err why → IsOfWalk why
  by None rest g = record { fault = fault.NoEntry; is = cc }
  by (Some target) rest g = rest target g

pub walk_refuses : (rows : List NameRow) (path : List (List ℕ)) (why : Refusal) → walk_now rows path ≡ Err why → IsOfWalk why
walk_refuses rows path why h = walk_from rows (Directory root) path why h

covering_from : (rows : List NameRow) (moment : ℕ) (at : Target) (names : List (List ℕ)) (why : Refusal) → walk_covering rows moment at names ≡ Err why → IsOfWalk why
covering_from rows moment at [] why h = absurd cc
covering_from rows moment (File file) (name ∷ names) why h = record { fault = fault.NotDirectory; is = cc }
covering_from rows moment (Directory directory) (name ∷ names) why h = by (target_at rows moment directory name) (λ next. covering_from rows moment next names why) h where
  by : (found : Option Target) → ((next : Target) → walk_covering rows moment next names ≡ Err why → IsOfWalk why) → option_map_or (λ target. walk_covering rows moment target names) found (Err refusal.NoEntry) ≡ Err why → IsOfWalk why
  by None rest g = record { fault = fault.NoEntry; is = cc }
  by (Some target) rest g = rest target g

pub walk_at_refuses : (rows : List NameRow) (moment now : ℕ) (path : List (List ℕ)) (why : Refusal) → walk_at rows moment now path ≡ Err why → IsOfWalk why
walk_at_refuses rows moment now path why h = by (nat_lt now moment) h where
  by : (late : Bool) → (if late then Err refusal.Future else walk_covering rows moment (Directory root) path) ≡ Err why → IsOfWalk why
  by true g = record { fault = fault.Future; is = cc }
  by false g = covering_from rows moment (Directory root) path why g

pub parent_refuses : (rows : List NameRow) (path : List (List ℕ)) (why : Refusal) → parent_now rows path ≡ Err why → IsOfWalk why
parent_refuses rows path why h = by (slice_get path (length path - 1)) h where
  place : (name : List ℕ) (led : Result Target Refusal) → walk_now rows (take (length path - 1) path) ≡ led → directory_at name led ≡ Err why → IsOfWalk why
  place name (Ok (Directory directory)) is g = absurd cc
  place name (Ok (File file)) is g = record { fault = fault.NotDirectory; is = cc }
  place name (Err other) is g = walk_refuses rows (take (length path - 1) path) why cc

  by : (last : Option (List ℕ)) → option_map_or (λ name. directory_at name (walk_now rows (take (length path - 1) path))) last (Err refusal.IsRoot) ≡ Err why → IsOfWalk why
  by None g = record { fault = fault.IsRoot; is = cc }
  by (Some name) g = place name (walk_now rows (take (length path - 1) path)) refl g
