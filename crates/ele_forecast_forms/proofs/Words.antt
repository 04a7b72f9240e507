-- A line that isn't put.
use Rattle.std.proofs.Common.{◌≡◌, ℕ, List, Option, Some, None}
use Rattle.ele_output.specs.Outlet.{Outlet, Puts}
use Rattle.ele_output.proofs.Known.{puts_nil}
use Rattle.ele_forecast_text.specs.declared.details.Details.{Details}
use Rattle.ele_forecast_text.specs.declared.staying.Staying.{Staying}
use Rattle.ele_forecast_forms.specs.Compared.{staying_or_none}

-- no line is put of a moment that isn't there
pub no_line : (a : Outlet) (details : Details) (word : List ℕ) (other : Option Staying) → other ≡ None → Puts a a (staying_or_none details word other)
no_line a details word None is = puts_nil a
no_line a details word (Some staying) is = absurd cc
