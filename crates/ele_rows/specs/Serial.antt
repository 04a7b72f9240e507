-- Values by serial number, and indexes of them. No public clause cites this module.
use Rattle.std.specs.Prelude.{ℕ, Bool, List, Option}
use Rattle.std.specs.declared.cmp.Ordering.{Ordering}
use Rattle.std.specs.Ordering.{nat_cmp, ordering_then, is_eq}
use Rattle.std.specs.BTreeMap.{is_at}
use Rattle.std.specs.Map.{lookup}

-- the value with the serial number
abbrev pub value_at : {X : Type 0} → List (ℕ × X) → ℕ → Option X
value_at es s = lookup (is_at (nat_cmp s)) es

-- whether a group and a rank are those
abbrev pub is_placed : {G : Type 0} → (G → G → Ordering) → G → ℕ → G → ℕ → Bool
is_placed cmp group rank q r = is_eq (ordering_then (cmp group q) (nat_cmp rank r))
