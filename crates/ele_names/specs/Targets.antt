-- Targets. No public clause cites this module.
use Rattle.std.specs.Prelude.{◌&&◌, is_none, Bool}
use Rattle.ele_model.specs.declared.rows.NameRow.{NameRow}
use Rattle.ele_model.specs.declared.rows.Target.{Target}
use Rattle.ele_model.specs.contracts.rows.TargetPartialEq.TheImpl.{eq-value}

-- the two are equal
abbrev pub target_eq : Target → Target → Bool
target_eq = eq-value.it

-- a live row of the target
abbrev pub is_live_of : Target → NameRow → Bool
is_live_of target row = target_eq row.target target && is_none row.death
